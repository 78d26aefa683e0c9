use Rattle.std.proofs.Common.{◌∙◌, sym}
use Rattle.vg_kernel_plans.proofs.Lanes.{ended-lanes}
use Rattle.vg_kernel_plans.proofs.held.is_among_lanes.Goals as goal

pub returns-then-below-width : goal.returns-then-below-width
returns-then-below-width c =
    ended-lanes c.args.slot.now c.lanes.below c.args.width c.lanes.lane-index c.args.lanes.now c.lanes-test.true
    c.lanes.invariant (sym c.is_at_lane.ensures ∙ c.if-is_at_lane.false) c.if-below-width.true
