use Rattle.std.proofs.Common.{◌≡◌}
use Rattle.vg_kernel_plans.proofs.FirstLoads.{loads_among}
use Rattle.vg_kernel_plans.proofs.first_loads.first_loads.Given as goal

abbrev pub invariant-units : goal.invariant-units
invariant-units l = l.loads.items ≡ loads_among l.ssa l.first l.index
