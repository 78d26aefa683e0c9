use Rattle.std.proofs.Common.{◌≡◌, ◌++◌, length, map}
use Rattle.vg_catalog.specs.Entries.{entry_of}
use Rattle.vg_catalog.specs.Written.{AllWritten}
use Rattle.vg_entry_lanes.specs.Laws.{HaveLanes}
use Rattle.vg_lift_text.specs.Listed.{entries_text}
use Rattle.vg_lift_text.proofs.entries.list_all.Given as goal

abbrev pub invariant-entries : goal.invariant-entries
invariant-entries l = record {
  lines : l.to.items ++ entries_text (map entry_of l.left) ≡ entries_text (map entry_of l.entries);
  written : AllWritten (map entry_of l.left);
  lanes : HaveLanes (map entry_of l.left);
}

abbrev pub decreases-entries : goal.decreases-entries
decreases-entries l = length l.left
