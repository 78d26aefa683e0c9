use Rattle.std.proofs.Common.{◌≡◌, length, map}
use Rattle.vg_catalog.specs.Entries.{entry_of}
use Rattle.vg_machine.specs.ReadyInstance.{AreCalled}
use Rattle.vg_machine.specs.Planner.{IsSound, planned_of}
use Rattle.vg_machine.proofs.Planning.{PlannedUpTo}
use Rattle.vg_machine.proofs.planner.planned_lines.Given as goal

abbrev pub invariant-lines : goal.invariant-lines
invariant-lines l = record {
  entries : (planned_of l.planner).entries ≡ map entry_of l.entries;
  sound : IsSound l.planner;
  called : AreCalled (map entry_of l.entries) l.left;
  planned : PlannedUpTo (planned_of l.planner) l.plan.items l.left l.lines;
}

abbrev pub decreases-lines : goal.decreases-lines
decreases-lines l = length l.left
