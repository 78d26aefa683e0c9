use Rattle.std.proofs.Common.{◌≡◌, ◌-◌, ◌≤◌, replicate}
use Rattle.std.specs.Prelude.{vec_len, vec_capacity}
use Rattle.vg_pmean.proofs.cells.begin.Given as goal

abbrev pub invariant-variables : goal.invariant-variables
invariant-variables l = record {
  few : vec_len l.variables ≤ l.count;
  zeros : l.variables.items ≡ replicate (vec_len l.variables) 0;
  capacity : vec_capacity l.variables ≡ vec_capacity l.initial.variables;
}

abbrev pub decreases-variables : goal.decreases-variables
decreases-variables l = l.count - vec_len l.variables
