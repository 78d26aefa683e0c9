use Rattle.std.proofs.Common.{◌∙◌, subst, sym}
use Rattle.vg_packs.specs.Floor.{IsHighest}
use Rattle.vg_packs.proofs.Floors.{span-marked}
use Rattle.vg_packs.proofs.plan_spans.mark_span.Goals as goal

pub returns : goal.returns
returns c =
    span-marked c.args.table.now c.args.ssa.now c.args.deps.now c.args.pack.now c.as_slice.result.now c.as_slice-3.result.now
    c.least_of-least.result c.greatest_of-highest.result c.greatest_of-greatest.result c.args.spanned.now c.mark_within.new.marks
    (c.as_slice.ensures.value ∙ c.in_ok-units.ensures) (c.as_slice-3.ensures.value ∙ c.in_ok-needs.ensures)
    c.least_of-least.ensures
    (subst (IsHighest c.greatest_of-highest.result) (c.as_slice-2.ensures.value ∙ sym c.as_slice.ensures.value) c.greatest_of-highest.ensures.all)
    c.greatest_of-greatest.ensures.first c.greatest_of-greatest.ensures.all c.mark_within.ensures
