use Rattle.std.proofs.Common.{List, get_or, refl}
use Rattle.std.specs.List.{filter_map}
use Rattle.std.proofs.lemmas.List.Elements.{filter_map-append}
use Rattle.vg_shapes.specs.declared.operand.Slot.{Slot}
use Rattle.vg_shapes.specs.declared.wanted.Wanted.TheVariants.{Value}
use Rattle.vg_kernel_plans.specs.Wants.{slot, value_of}
use Rattle.vg_cost.proofs.Moving.{counted_all, counted_long, counted_none, counted_step}
use Rattle.vg_cost.proofs.counts.count_slots.Goals as goal

pub slots-init : goal.slots-init
slots-init c = counted_none c.args.more _ _

pub count_wanted-requires : goal.count_wanted-requires
count_wanted-requires c = counted_long c.args.more _ _ _ _ _ c.slots.invariant c.requires

pub slots-preserved : goal.slots-preserved
slots-preserved c =
    counted_step (λ (l : List Slot). filter_map (λ s. value_of s.wanted) l) c.args.more c.args.slots.now c.slots.slot-index
    (get_or c.args.slots.now c.slots.slot-index (slot 0 0 (Value 0))) (slot 0 0 (Value 0)) _ _ _ _ _ _
    (filter_map-append (λ s. value_of s.wanted)) c.slots-test.true refl c.slots.invariant c.in_ok-count_wanted.ensures

pub returns : goal.returns
returns c =
    counted_all (λ (l : List Slot). filter_map (λ s. value_of s.wanted) l) c.args.more c.args.slots.now c.slots.slot-index _ _ _ _
    c.slots-test.false c.slots.invariant
