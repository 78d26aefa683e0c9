use Rattle.std.proofs.Common.{◌∙◌, ap, sym}
use Rattle.std.proofs.lemmas.List.{drop_all}
use Rattle.vg_plans.specs.Levels.{distinct_onto}
use Rattle.vg_plans.proofs.Onto.{onto-distinct}
use Rattle.vg_kernel_plans.specs.SameAs.{same_slot}
use Rattle.vg_kernel_plans.proofs.taken.distinct_slots.Goals as goal

pub returns : goal.returns
returns c =
    ap (distinct_onto same_slot c.slots.found.items) (sym (drop_all c.slots.slot-index c.args.slots.now c.slots-test.false))
    ∙ c.slots.invariant ∙ onto-distinct same_slot c.args.slots.now
