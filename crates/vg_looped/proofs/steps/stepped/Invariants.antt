-- the pairs so far, and those of the steps that are left, are all
use Rattle.std.proofs.Common.{◌≡◌, ◌++◌, ◌+◌, ◌≤◌, length}
use Rattle.vg_looped.specs.Steps.{stepped}
use Rattle.vg_looped.proofs.steps.stepped.Given as goal

abbrev pub invariant-steps : goal.invariant-steps
invariant-steps l = record {
  same : l.pairs.items ++ stepped l.pointer l.rest ≡ stepped 0 l.steps;
  few : l.pointer + length l.rest ≤ 16;
}

abbrev pub decreases-steps : goal.decreases-steps
decreases-steps l = length l.rest
