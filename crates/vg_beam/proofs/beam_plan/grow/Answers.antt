use Rattle.std.specs.Prelude.{filter}
use Rattle.std.proofs.Common.{◌∙◌, ◌++◌, ◌∷◌, [], ap, subst, sym}
use Rattle.vg_kernel_plans.proofs.FedPlans.{may-be-fed}
use Rattle.vg_kernel_plans.specs.Fed.{IsPlanBy}
use Rattle.vg_kernel_plans.specs.Taken.{IsShort}
use Rattle.vg_plans.proofs.Lists.{every-has}
use Rattle.vg_beam.specs.SearchSpace.{choice_of, described}
use Rattle.vg_beam.specs.PackTable.{pack_at, produced_at}
use Rattle.vg_beam.specs.BeamPlan.{IsKept, is_apart, plan_of}
use Rattle.vg_beam.specs.Key.{with_number}
use Rattle.vg_beam.proofs.Candidates.{kept-along, kept-grown}
use Rattle.vg_beam.proofs.beam_plan.grow.Goals as goal

pub with-requires-clause-short : goal.with-requires-clause-short
with-requires-clause-short c = subst IsShort (sym c.pack-pack.ensures) c.requires.candidate.short

pub with-requires-clause-stands : goal.with-requires-clause-stands
with-requires-clause-stands c =
    (every-has (IsKept (choice_of c.args.space.now) (described c.args.space.now) c.args.space.now.table.now c.args.space.now.ssa.now c.args.pack_table.now.packs.items) _ c.args.level.now c.requires.level c.kept_at-parent.ensures.member).stands

pub with-requires-clause-plan : goal.with-requires-clause-plan
with-requires-clause-plan c =
    let plan = plan_of c.kept_at-parent.result.now in
    let p = pack_at c.args.pack_table.now.packs.items c.args.candidate.now.pack in
    let is = IsPlanBy (choice_of c.args.space.now) (described c.args.space.now) c.args.space.now.table.now c.args.space.now.ssa.now c.requires.candidate.plan.0 in (
      c.requires.candidate.plan.0,
      may-be-fed (described c.args.space.now) c.args.space.now.table.now c.args.space.now.ssa.now c.requires.candidate.plan.0 (choice_of c.args.space.now) _
          (subst (λ q. is (plan ++ q ∷ [])) (sym c.pack-pack.ensures)
          (subst is (ap (λ l. l ++ p ∷ []) (sym c.kept_at-parent.ensures.plan)) c.requires.candidate.plan.1)),
    )

pub tried_after-requires-clause-before : goal.tried_after-requires-clause-before
tried_after-requires-clause-before c =
    let packs = c.args.pack_table.now.packs.items in
    let parent = c.kept_at-parent.result.now in
    (kept-along (choice_of c.args.space.now) (described c.args.space.now) c.args.space.now.table.now c.args.space.now.ssa.now packs c.open.new.self.packs.items parent c.in_ok-open.ensures.grows
    (every-has (IsKept (choice_of c.args.space.now) (described c.args.space.now) c.args.space.now.table.now c.args.space.now.ssa.now packs) parent c.args.level.now c.requires.level c.kept_at-parent.ensures.member)).tried.inside

pub tried_after-requires-clause-produced : goal.tried_after-requires-clause-produced
tried_after-requires-clause-produced c = c.in_ok-open.ensures.produced.inside

pub returns : goal.returns
returns c =
    let parent = c.kept_at-parent.result.now in
    let plan = plan_of parent in
    let p = pack_at c.args.pack_table.now.packs.items c.args.candidate.now.pack in
    let packs = c.in_ok-running.ensures.packs ∙ ap (λ q. plan ++ q ∷ []) c.pack-pack.ensures in
    record {
      pack_table = c.in_ok-open.ensures.pack_table;
      grows = c.in_ok-open.ensures.grows;
      kept = kept-grown (choice_of c.args.space.now) (described c.args.space.now) c.args.space.now.table.now c.args.space.now.ssa.now c.args.pack_table.now c.open.new.self parent _ c.args.candidate.now.pack c.requires.candidate.placed.pack
          (every-has (IsKept (choice_of c.args.space.now) (described c.args.space.now) c.args.space.now.table.now c.args.space.now.ssa.now c.args.pack_table.now.packs.items) parent c.args.level.now c.requires.level c.kept_at-parent.ensures.member)
          c.in_ok-open.ensures packs c.in_ok-running.ensures.stands
          (c.from_vec.ensures ∙ c.in_ok-key.ensures ∙ ap (with_number c.args.candidate.now.pack) c.as_slice.ensures)
          (c.in_ok-tried.ensures ∙ ap (λ l. filter (λ m. is_apart l (pack_at c.open.new.self.packs.items m)) (parent.tried ++ produced_at c.open.new.self c.args.candidate.now.pack)) c.packs-plan.ensures);
      plan = packs ∙ ap (λ l. l ++ p ∷ []) c.kept_at-parent.ensures.plan;
    }
