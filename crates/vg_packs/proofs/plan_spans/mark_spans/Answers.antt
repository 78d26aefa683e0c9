use Rattle.std.proofs.Common.{◌∙◌, refl, subst}
use Rattle.vg_plans.proofs.Lists.{take-whole}
use Rattle.vg_packs.specs.Floor.{MarksSpans}
use Rattle.vg_packs.proofs.Floors.{spans-next}
use Rattle.vg_packs.proofs.plan_spans.mark_spans.Goals as goal

pub packs-init : goal.packs-init
packs-init c = record { long = refl; spans = λ f l n p h. absurd h }

pub packs-preserved : goal.packs-preserved
packs-preserved c = record {
  long = c.in_ok-mark_span.ensures.long ∙ c.packs.invariant.long;
  spans = spans-next c.args.table.now c.args.ssa.now c.args.deps.now c.args.plan.now c.packs.pack-index c.pack-item.result _ c.packs.spanned c.mark_span.new.spanned
      c.packs-test.true c.pack-item.is c.packs.invariant.spans c.in_ok-mark_span.ensures;
}

pub returns-clause-spans : goal.returns-clause-spans
returns-clause-spans c =
    subst (λ l. MarksSpans c.args.table.now c.args.ssa.now c.args.deps.now l c.packs.spanned) (take-whole c.packs.pack-index c.args.plan.now c.packs-test.false)
    c.packs.invariant.spans
