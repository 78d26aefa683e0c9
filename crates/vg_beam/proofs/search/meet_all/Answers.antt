use Rattle.std.proofs.Common.{◌∙◌, get_or, subst, sym}
use Rattle.std.specs.Prelude.{filter}
use Rattle.vg_cost.specs.PriceScratch.{IsScratchFor}
use Rattle.vg_packs.specs.PlanMarks.{MarksPlan}
use Rattle.vg_packs.specs.PlanSpans.{SpansPlan}
use Rattle.vg_plans.proofs.Lists.{every-has}
use Rattle.vg_plans.specs.World.{tried}
use Rattle.vg_beam.specs.SearchSpace.{choice_of, described, world_of}
use Rattle.vg_beam.specs.PackTable.{no_pack}
use Rattle.vg_beam.specs.BeamPlan.{IsKept, is_apart, plan_at}
use Rattle.vg_beam.specs.Key.{Names}
use Rattle.vg_beam.proofs.Candidates.{meets-end, meets-none, meets-step, number-tried}
use Rattle.vg_beam.proofs.Numbers.{zero-at}
use Rattle.vg_beam.proofs.search.meet_all.Goals as goal

pub packs-init : goal.packs-init
packs-init c = (
  meets-none (choice_of c.args.space.now) (described c.args.space.now) c.args.space.now.table.now c.args.space.now.ssa.now c.args.space.now.deps.now c.args.pack_table.now.packs.items c.args.level.now
      (plan_at c.args.level.now c.args.parent) c.args.met.now c.requires.met,
  subst (λ l. IsScratchFor c.args.space.now.ssa.now l c.in_ok-scratch.scratch) (c.packs-packs.ensures ∙ c.kept_at-kept.ensures.plan) c.in_ok-scratch.ensures,
)

pub meet-requires-clause-scratch : goal.meet-requires-clause-scratch
meet-requires-clause-scratch c = c.packs.invariant.1

pub meet-requires-clause-marks : goal.meet-requires-clause-marks
meet-requires-clause-marks c = subst (λ l. MarksPlan c.args.space.now.ssa.now l c.in_ok-marks.marks) (c.packs-packs.ensures ∙ c.kept_at-kept.ensures.plan) c.in_ok-marks.ensures

pub meet-requires-clause-spans : goal.meet-requires-clause-spans
meet-requires-clause-spans c =
    subst (λ l. SpansPlan c.args.space.now.table.now c.args.space.now.ssa.now c.args.space.now.deps.now l c.in_ok-spans.spans)
    (c.packs-packs.ensures ∙ c.kept_at-kept.ensures.plan) c.in_ok-spans.ensures

pub meet-requires-clause-pack : goal.meet-requires-clause-pack
meet-requires-clause-pack c =
    let w = world_of c.args.space.now in
    let kept = every-has (IsKept (choice_of c.args.space.now) (described c.args.space.now) c.args.space.now.table.now c.args.space.now.ssa.now c.args.pack_table.now.packs.items) _ c.args.level.now c.requires.level c.kept_at-kept.ensures.member in
    let names =
    subst (λ ns. Names no_pack c.args.pack_table.now.packs.items ns (filter (is_apart (plan_at c.args.level.now c.args.parent)) (tried w (plan_at c.args.level.now c.args.parent)))) (sym c.as_slice-numbers.ensures)
    (subst (λ l. Names no_pack c.args.pack_table.now.packs.items c.kept_at-kept.result.now.tried (filter (is_apart l) (tried w l))) c.kept_at-kept.ensures.plan kept.tried) in
    (number-tried (choice_of c.args.space.now) (described c.args.space.now) c.args.space.now.table.now c.args.space.now.ssa.now c.args.space.now.deps.now c.args.pack_table.now.packs.items c.args.level.now
    (plan_at c.args.level.now c.args.parent) c.as_slice-numbers.result.now c.packs.pack-index c.packs-test.true names).0

pub meet-requires-clause-tried : goal.meet-requires-clause-tried
meet-requires-clause-tried c =
    let w = world_of c.args.space.now in
    let kept = every-has (IsKept (choice_of c.args.space.now) (described c.args.space.now) c.args.space.now.table.now c.args.space.now.ssa.now c.args.pack_table.now.packs.items) _ c.args.level.now c.requires.level c.kept_at-kept.ensures.member in
    let names =
    subst (λ ns. Names no_pack c.args.pack_table.now.packs.items ns (filter (is_apart (plan_at c.args.level.now c.args.parent)) (tried w (plan_at c.args.level.now c.args.parent)))) (sym c.as_slice-numbers.ensures)
    (subst (λ l. Names no_pack c.args.pack_table.now.packs.items c.kept_at-kept.result.now.tried (filter (is_apart l) (tried w l))) c.kept_at-kept.ensures.plan kept.tried) in
    (number-tried (choice_of c.args.space.now) (described c.args.space.now) c.args.space.now.table.now c.args.space.now.ssa.now c.args.space.now.deps.now c.args.pack_table.now.packs.items c.args.level.now
    (plan_at c.args.level.now c.args.parent) c.as_slice-numbers.result.now c.packs.pack-index c.packs-test.true names).1

pub meet-requires-clause-met : goal.meet-requires-clause-met
meet-requires-clause-met c = c.packs.invariant.0.met

pub packs-preserved : goal.packs-preserved
packs-preserved c = (
  meets-step (choice_of c.args.space.now) (described c.args.space.now) c.args.space.now.table.now c.args.space.now.ssa.now c.args.space.now.deps.now c.args.pack_table.now.packs.items c.args.level.now
      (plan_at c.args.level.now c.args.parent) c.as_slice-numbers.result.now c.packs.pack-index (get_or c.as_slice-numbers.result.now c.packs.pack-index 0)
      c.args.met.now c.packs.met _ c.packs-test.true (zero-at c.as_slice-numbers.result.now c.packs.pack-index c.packs-test.true) c.packs.invariant.0 c.in_ok-meet.ensures.met,
  subst (IsScratchFor c.args.space.now.ssa.now (plan_at c.args.level.now c.args.parent)) (sym c.in_ok-meet.ensures.scratch) c.packs.invariant.1,
)

pub returns : goal.returns
returns c =
    let w = world_of c.args.space.now in
    let kept = every-has (IsKept (choice_of c.args.space.now) (described c.args.space.now) c.args.space.now.table.now c.args.space.now.ssa.now c.args.pack_table.now.packs.items) _ c.args.level.now c.requires.level c.kept_at-kept.ensures.member in
    let names =
    subst (λ ns. Names no_pack c.args.pack_table.now.packs.items ns (filter (is_apart (plan_at c.args.level.now c.args.parent)) (tried w (plan_at c.args.level.now c.args.parent)))) (sym c.as_slice-numbers.ensures)
    (subst (λ l. Names no_pack c.args.pack_table.now.packs.items c.kept_at-kept.result.now.tried (filter (is_apart l) (tried w l))) c.kept_at-kept.ensures.plan kept.tried) in
    meets-end (choice_of c.args.space.now) (described c.args.space.now) c.args.space.now.table.now c.args.space.now.ssa.now c.args.space.now.deps.now c.args.pack_table.now.packs.items c.args.level.now
    (plan_at c.args.level.now c.args.parent) c.as_slice-numbers.result.now c.packs.pack-index c.args.met.now c.packs.met c.packs-test.false names c.packs.invariant.0
