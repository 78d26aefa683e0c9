use Rattle.std.proofs.Common.{Some, map, drop}
use Rattle.vg_kernel_plans.proofs.Lanes.{Tells}
use Rattle.vg_kernel_plans.proofs.held.is_among_loads.Given as goal

abbrev pub invariant-units : goal.invariant-units
invariant-units l = Tells l.slot l.below l.width (map Some (drop l.unit-index l.units)) (map Some l.units)
