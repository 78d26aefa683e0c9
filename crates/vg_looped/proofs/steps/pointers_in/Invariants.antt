-- those that were counted, and those of the parameters that are left, are all
use Rattle.std.proofs.Common.{◌≡◌, ◌+◌, ◌≤◌, length}
use Rattle.vg_program.specs.Params.{pointers}
use Rattle.vg_looped.proofs.steps.pointers_in.Given as goal

abbrev pub invariant-params : goal.invariant-params
invariant-params l = record {
  counted : l.count + length (pointers l.rest) ≡ length (pointers l.params);
  few : l.count + length l.rest ≤ 16;
}

abbrev pub decreases-params : goal.decreases-params
decreases-params l = length l.rest
