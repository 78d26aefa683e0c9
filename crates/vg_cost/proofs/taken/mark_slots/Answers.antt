use Rattle.std.proofs.Common.{List, refl, get_or}
use Rattle.std.specs.List.{filter_map}
use Rattle.std.proofs.lemmas.List.Elements.{filter_map-append}
use Rattle.vg_shapes.specs.declared.operand.Slot.{Slot}
use Rattle.vg_shapes.specs.declared.wanted.Wanted.TheVariants.{Value}
use Rattle.vg_kernel_plans.specs.Wants.{slot, value_of}
use Rattle.vg_cost.proofs.Marking.{marked_all, marked_none, marked_step}
use Rattle.vg_cost.proofs.taken.mark_slots.Goals as goal

pub slots-init : goal.slots-init
slots-init c = marked_none _

pub slots-preserved : goal.slots-preserved
slots-preserved c =
    marked_step (λ (l : List Slot). filter_map (λ s. value_of s.wanted) l) c.args.slots.now c.slots.slot-index
    (get_or c.args.slots.now c.slots.slot-index (slot 0 0 (Value 0))) (slot 0 0 (Value 0)) _ _ _
    (filter_map-append (λ s. value_of s.wanted)) c.slots-test.true refl c.slots.invariant c.mark_wanted.ensures

pub returns : goal.returns
returns c =
    marked_all (λ (l : List Slot). filter_map (λ s. value_of s.wanted) l) c.args.slots.now c.slots.slot-index _ _
    c.slots-test.false c.slots.invariant
