-- the pointers that were counted, and those that are left, are all
use Rattle.std.proofs.Common.{◌≡◌, ◌+◌, ◌≤◌, length}
use Rattle.vg_kernel.specs.WellFormed.{pointers}
use Rattle.vg_guard.proofs.kernel_checks.count_of_pointers.Given as goal

abbrev pub invariant-params : goal.invariant-params
invariant-params l = record {
  all : l.count + length (pointers l.rest) ≡ length (pointers l.fn.params);
  few : l.count + length l.rest ≤ 16;
}

abbrev pub decreases-params : goal.decreases-params
decreases-params l = length l.rest
