-- the steps so far, and those of the pointers that are left, are all
use Rattle.std.proofs.Common.{◌≡◌, ◌++◌, ◌-◌, ◌≤◌}
use Rattle.vg_looped.specs.Steps.{steps_of}
use Rattle.vg_looped.proofs.steps.steps_of.Given as goal

abbrev pub invariant-pointers : goal.invariant-pointers
invariant-pointers l = record {
  room : l.pointer ≤ l.count;
  same : l.steps.items ++ steps_of l.pointer (l.count - l.pointer) l.rest ≡ steps_of 0 l.count l.pairs;
}

abbrev pub decreases-pointers : goal.decreases-pointers
decreases-pointers l = l.count - l.pointer
