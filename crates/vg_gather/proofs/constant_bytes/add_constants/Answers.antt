use Rattle.std.proofs.Common.{get_or, refl}
use Rattle.vg_shapes.specs.declared.operand.Slot.{Slot}
use Rattle.vg_shapes.specs.declared.wanted.Wanted.TheVariants.{Value}
use Rattle.vg_gather.proofs.Carries.{adds_all, adds_more, adds_none}
use Rattle.vg_gather.proofs.constant_bytes.add_constants.Goals as goal

abbrev none : Slot
none = record { low = 0; width = 0; wanted = Value 0 }

pub slots-init : goal.slots-init
slots-init c = adds_none _

pub slots-preserved : goal.slots-preserved
slots-preserved c =
    adds_more c.args.slots.now c.slots.slot-index (get_or c.args.slots.now c.slots.slot-index none) none _ _ _
    c.slots-test.true refl c.slots.invariant c.add_constant.ensures

pub returns : goal.returns
returns c = adds_all c.args.slots.now c.slots.slot-index _ _ c.slots-test.false c.slots.invariant
