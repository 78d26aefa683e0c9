use Rattle.std.proofs.Common.{◌≡◌, ◌++◌, drop}
use Rattle.vg_kernel_plans.specs.Taken.{operands_from}
use Rattle.vg_kernel_plans.proofs.taken.operands_for.Given as goal

abbrev pub invariant-params : goal.invariant-params
invariant-params l = record {
  number : l.parameter ≡ l.register-index;
  operands : l.operands.items ++ operands_from l.bounds l.register-index (drop l.register-index l.params) ≡ operands_from l.bounds 0 l.params;
}
