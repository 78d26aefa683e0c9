use Rattle.std.proofs.Common.{drop}
use Rattle.vg_kernel_plans.proofs.Lanes.{Tells}
use Rattle.vg_kernel_plans.proofs.held.is_among_lanes.Given as goal

abbrev pub invariant-lanes : goal.invariant-lanes
invariant-lanes l = Tells l.slot l.below l.width (drop l.lane-index l.lanes) l.lanes
