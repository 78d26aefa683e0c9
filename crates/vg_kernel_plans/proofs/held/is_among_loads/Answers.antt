use Rattle.std.proofs.Common.{◌∙◌, sym}
use Rattle.vg_kernel_plans.proofs.Lanes.{ended-loads}
use Rattle.vg_kernel_plans.proofs.held.is_among_loads.Goals as goal

pub returns-then-below-width : goal.returns-then-below-width
returns-then-below-width c =
    ended-loads c.args.slot.now c.units.below c.args.width c.units.unit-index c.args.units.now c.units-test.true
    c.units.invariant (sym c.is_here.ensures ∙ c.if-is_here.false) c.if-below-width.true
