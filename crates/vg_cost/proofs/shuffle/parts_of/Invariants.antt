use Rattle.std.proofs.Common.{◌≡◌, ◌++◌, drop}
use Rattle.vg_kernel_plans.specs.Shuffles.{parts_from}
use Rattle.vg_cost.proofs.shuffle.parts_of.Given as goal

abbrev pub invariant-params : goal.invariant-params
invariant-params l = record {
  number : l.parameter ≡ l.register-index;
  parts : l.parts.items ++ parts_from l.moved l.register-index (drop l.register-index l.params) ≡ parts_from l.moved 0 l.params;
}
