use Rattle.std.proofs.Common.{◌≡◌, ◌++◌, length, map}
use Rattle.std.specs.List.{AllByRecursion}
use Rattle.vg_catalog.specs.Entries.{entry_of}
use Rattle.vg_catalog.specs.Extensions.{bits_in}
use Rattle.vg_catalog.specs.Written.{AllWritten}
use Rattle.vg_entry_lanes.specs.Laws.{HaveLanes}
use Rattle.vg_shapes.specs.Description.{description_of}
use Rattle.vg_descriptions.specs.Descriptions.{AreOf, descriptions}
use Rattle.vg_descriptions.specs.Proper.{IsProper}
use Rattle.vg_descriptions.proofs.Entries.{AreNamed}
use Rattle.vg_descriptions.proofs.descriptions.all_descriptions.Given as goal

abbrev pub invariant-entries : goal.invariant-entries
invariant-entries l = record {
  is : map description_of l.found.descriptions.items ++ descriptions (bits_in l.allowed) (map entry_of l.left)
      ≡ descriptions (bits_in l.allowed) (map entry_of l.entries);
  are_of : AreOf (map entry_of l.entries) (map description_of l.found.descriptions.items);
  named : AreNamed (map entry_of l.entries) (map entry_of l.left);
  written : AllWritten (map entry_of l.left);
  lanes : HaveLanes (map entry_of l.left);
  proper : AllByRecursion (λ e. IsProper e.header) (map entry_of l.left);
}

abbrev pub decreases-entries : goal.decreases-entries
decreases-entries l = length l.left
