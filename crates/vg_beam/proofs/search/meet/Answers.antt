use Rattle.std.proofs.Common.{◌∙◌, ◌++◌, ◌∷◌, [], ap, arith, refl, subst, sym}
use Rattle.vg_kernel_plans.proofs.FedPlans.{may-be-fed}
use Rattle.vg_kernel_plans.specs.Fed.{IsPlanBy}
use Rattle.vg_kernel_plans.specs.Laws.{cost_of}
use Rattle.vg_kernel_plans.specs.Packing.{packing}
use Rattle.vg_kernel_plans.specs.Taken.{IsShort, operands_of}
use Rattle.vg_cost.specs.PriceScratch.{IsScratchFor}
use Rattle.vg_packs.specs.PlanMarks.{MarksPlan}
use Rattle.vg_packs.specs.PlanSpans.{SpansPlan}
use Rattle.vg_packs.specs.Walk.{IsFree}
use Rattle.vg_plans.proofs.Lists.{every-has}
use Rattle.vg_plans.specs.World.{stays_plan}
use Rattle.vg_beam.specs.SearchSpace.{choice_of, described}
use Rattle.vg_beam.specs.PackTable.{no_pack, pack_at}
use Rattle.vg_beam.specs.BeamPlan.{IsKept, plan_at, plan_of}
use Rattle.vg_beam.specs.Key.{IsKey, with_number}
use Rattle.vg_beam.specs.MetPlans.{is_known}
use Rattle.vg_beam.proofs.Candidates.{is-candidate, last-short, longer-plan, meets-known, meets-new, meets-refused, plan-free}
use Rattle.vg_beam.proofs.Keys.{key-longer}
use Rattle.vg_beam.proofs.search.meet.Goals as goal

pub stays_by_spans-requires-clause-marks : goal.stays_by_spans-requires-clause-marks
stays_by_spans-requires-clause-marks c =
    subst (λ l. MarksPlan c.args.space.now.ssa.now l c.args.marks.now) (sym (c.packs-packs.ensures ∙ c.kept_at-kept.ensures.plan)) c.requires.marks

pub stays_by_spans-requires-clause-spans : goal.stays_by_spans-requires-clause-spans
stays_by_spans-requires-clause-spans c =
    subst (λ l. SpansPlan c.args.space.now.table.now c.args.space.now.ssa.now c.args.space.now.deps.now l c.args.spans.now)
    (sym (c.packs-packs.ensures ∙ c.kept_at-kept.ensures.plan)) c.requires.spans

pub stays_by_spans-requires-clause-free : goal.stays_by_spans-requires-clause-free
stays_by_spans-requires-clause-free c =
    subst (IsFree c.args.space.now.table.now c.args.space.now.ssa.now c.args.space.now.deps.now) (sym (c.packs-packs.ensures ∙ c.kept_at-kept.ensures.plan))
    (plan-free (choice_of c.args.space.now) (described c.args.space.now) c.args.space.now.table.now c.args.space.now.ssa.now c.args.space.now.deps.now c.requires.earlier (plan_at c.args.level.now c.args.parent) c.requires.plan)

pub cost_with-requires-clause-short : goal.cost_with-requires-clause-short
cost_with-requires-clause-short c =
    let bare = packing [] c.args.space.now.table.now c.args.space.now.ssa.now c.args.space.now.deps.now in
    let plan = plan_at c.args.level.now c.args.parent in
    let p = pack_at c.args.pack_table.now.packs.items c.args.pack in
    let t = ap (stays_plan bare plan) (sym c.pack-last.ensures) ∙ ap (λ l. stays_plan bare l c.pack-last.result.now) (sym (c.packs-packs.ensures ∙ c.kept_at-kept.ensures.plan))
    ∙ sym c.in_ok-stays.ensures ∙ c.if-not-stays.false in
    subst IsShort (sym c.pack-last.ensures)
    (last-short (choice_of c.args.space.now) (described c.args.space.now) c.args.space.now.table.now c.args.space.now.ssa.now c.args.space.now.deps.now c.requires.short plan p (longer-plan (choice_of c.args.space.now) (described c.args.space.now) c.args.space.now.table.now c.args.space.now.ssa.now c.args.space.now.deps.now plan p c.requires.plan c.requires.tried t))

pub cost_with-requires-clause-scratch : goal.cost_with-requires-clause-scratch
cost_with-requires-clause-scratch c =
    subst (λ l. IsScratchFor c.args.space.now.ssa.now l c.args.scratch.now) (sym c.kept_at-kept.ensures.plan) c.requires.scratch

pub cost_with-requires-clause-stands : goal.cost_with-requires-clause-stands
cost_with-requires-clause-stands c =
    (every-has (IsKept (choice_of c.args.space.now) (described c.args.space.now) c.args.space.now.table.now c.args.space.now.ssa.now c.args.pack_table.now.packs.items) _ c.args.level.now c.requires.level c.kept_at-kept.ensures.member).stands

pub cost_with-requires-clause-plan : goal.cost_with-requires-clause-plan
cost_with-requires-clause-plan c =
    let bare = packing [] c.args.space.now.table.now c.args.space.now.ssa.now c.args.space.now.deps.now in
    let plan = plan_at c.args.level.now c.args.parent in
    let p = pack_at c.args.pack_table.now.packs.items c.args.pack in
    let t = ap (stays_plan bare plan) (sym c.pack-last.ensures) ∙ ap (λ l. stays_plan bare l c.pack-last.result.now) (sym (c.packs-packs.ensures ∙ c.kept_at-kept.ensures.plan))
    ∙ sym c.in_ok-stays.ensures ∙ c.if-not-stays.false in
    let is = IsPlanBy (choice_of c.args.space.now) (described c.args.space.now) c.args.space.now.table.now c.args.space.now.ssa.now c.args.space.now.deps.now in (
      c.args.space.now.deps.now,
      may-be-fed (described c.args.space.now) c.args.space.now.table.now c.args.space.now.ssa.now c.args.space.now.deps.now (choice_of c.args.space.now) _
          (subst (λ q. is (plan_of c.kept_at-kept.result.now ++ q ∷ [])) (sym c.pack-last.ensures)
          (subst (λ l. is (l ++ p ∷ [])) (sym c.kept_at-kept.ensures.plan)
          (longer-plan (choice_of c.args.space.now) (described c.args.space.now) c.args.space.now.table.now c.args.space.now.ssa.now c.args.space.now.deps.now plan p c.requires.plan c.requires.tried t))),
    )

pub returns-then-known : goal.returns-then-known
returns-then-known c =
    let packs = c.args.pack_table.now.packs.items in
    let plan = plan_at c.args.level.now c.args.parent in
    let p = pack_at packs c.args.pack in
    let k = subst (λ q. IsKey no_pack packs q (plan ++ p ∷ [])) (sym (c.in_ok-key.ensures ∙ ap (with_number c.args.pack) c.as_slice.ensures))
    (key-longer no_pack packs c.kept_at-kept.result.now.key plan c.args.pack (subst (IsKey no_pack packs c.kept_at-kept.result.now.key) c.kept_at-kept.ensures.plan
    (every-has (IsKept (choice_of c.args.space.now) (described c.args.space.now) c.args.space.now.table.now c.args.space.now.ssa.now packs) _ c.args.level.now c.requires.level c.kept_at-kept.ensures.member).key) c.requires.pack) in record {
      scratch = refl;
      met = meets-known (choice_of c.args.space.now) (described c.args.space.now) c.args.space.now.table.now c.args.space.now.ssa.now c.args.space.now.deps.now packs c.args.level.now plan p c.args.met.now c.in_ok-key.key.items c.requires.met k
          (ap (is_known c.args.met.now) (sym c.as_slice-2.ensures.value) ∙ sym c.has-known.ensures ∙ c.if-known.true);
    }

pub returns-then-not-stays : goal.returns-then-not-stays
returns-then-not-stays c =
    let bare = packing [] c.args.space.now.table.now c.args.space.now.ssa.now c.args.space.now.deps.now in
    let plan = plan_at c.args.level.now c.args.parent in
    let p = pack_at c.args.pack_table.now.packs.items c.args.pack in
    let f = ap (stays_plan bare plan) (sym c.pack-last.ensures) ∙ ap (λ l. stays_plan bare l c.pack-last.result.now) (sym (c.packs-packs.ensures ∙ c.kept_at-kept.ensures.plan))
    ∙ sym c.in_ok-stays.ensures ∙ c.if-not-stays.true in record {
      scratch = refl;
      met = meets-refused (choice_of c.args.space.now) (described c.args.space.now) c.args.space.now.table.now c.args.space.now.ssa.now c.args.space.now.deps.now c.args.pack_table.now.packs.items c.args.level.now plan p c.args.met.now c.requires.met f;
    }

pub returns : goal.returns
returns c =
    let bare = packing [] c.args.space.now.table.now c.args.space.now.ssa.now c.args.space.now.deps.now in
    let packs = c.args.pack_table.now.packs.items in
    let plan = plan_at c.args.level.now c.args.parent in
    let p = pack_at packs c.args.pack in
    let k = subst (λ q. IsKey no_pack packs q (plan ++ p ∷ [])) (sym (c.in_ok-key.ensures ∙ ap (with_number c.args.pack) c.as_slice.ensures))
    (key-longer no_pack packs c.kept_at-kept.result.now.key plan c.args.pack (subst (IsKey no_pack packs c.kept_at-kept.result.now.key) c.kept_at-kept.ensures.plan
    (every-has (IsKept (choice_of c.args.space.now) (described c.args.space.now) c.args.space.now.table.now c.args.space.now.ssa.now packs) _ c.args.level.now c.requires.level c.kept_at-kept.ensures.member).key) c.requires.pack) in
    let f = ap (is_known c.args.met.now) (sym c.as_slice-2.ensures.value) ∙ sym c.has-known.ensures ∙ c.if-known.false in
    let t = ap (stays_plan bare plan) (sym c.pack-last.ensures) ∙ ap (λ l. stays_plan bare l c.pack-last.result.now) (sym (c.packs-packs.ensures ∙ c.kept_at-kept.ensures.plan))
    ∙ sym c.in_ok-stays.ensures ∙ c.if-not-stays.false in
    let price = cost_of (described c.args.space.now) c.args.space.now.table.now c.args.space.now.ssa.now c.args.space.now.deps.now in
    let is = longer-plan (choice_of c.args.space.now) (described c.args.space.now) c.args.space.now.table.now c.args.space.now.ssa.now c.args.space.now.deps.now plan p c.requires.plan c.requires.tried t in record {
      scratch = c.in_ok-cost.ensures.scratch;
      met = meets-new (choice_of c.args.space.now) (described c.args.space.now) c.args.space.now.table.now c.args.space.now.ssa.now c.args.space.now.deps.now packs c.args.level.now plan p c.args.met.now _ c.in_ok-key.key.items _ c.requires.pack_table.apart c.requires.met k f t
          c.in_ok-add.ensures.candidates c.in_ok-add.ensures.known refl
          (is-candidate (choice_of c.args.space.now) (described c.args.space.now) c.args.space.now.table.now c.args.space.now.ssa.now c.args.space.now.deps.now packs c.args.level.now c.args.parent c.args.pack c.in_ok-cost.cost
          c.requires.parent c.requires.pack is
          (c.in_ok-cost.ensures.cost c.args.space.now.deps.now ∙ ap (λ q. price (plan_of c.kept_at-kept.result.now ++ q ∷ [])) c.pack-last.ensures
          ∙ ap (λ l. price (l ++ p ∷ [])) c.kept_at-kept.ensures.plan));
    }

pub operands-operands-requires : goal.operands-operands-requires
operands-operands-requires c = omega (arith, c.requires.pack, c.requires.pack_table.taken)

pub cost_with-requires-clause-operands : goal.cost_with-requires-clause-operands
cost_with-requires-clause-operands c =
    let bare = packing [] c.args.space.now.table.now c.args.space.now.ssa.now c.args.space.now.deps.now in
    let ds = described c.args.space.now in
    let plan = plan_at c.args.level.now c.args.parent in
    let p = pack_at c.args.pack_table.now.packs.items c.args.pack in
    let t = ap (stays_plan bare plan) (sym c.pack-last.ensures) ∙ ap (λ l. stays_plan bare l c.pack-last.result.now) (sym (c.packs-packs.ensures ∙ c.kept_at-kept.ensures.plan))
    ∙ sym c.in_ok-stays.ensures ∙ c.if-not-stays.false in
    let short = last-short (choice_of c.args.space.now) ds c.args.space.now.table.now c.args.space.now.ssa.now c.args.space.now.deps.now c.requires.short plan p (longer-plan (choice_of c.args.space.now) ds c.args.space.now.table.now c.args.space.now.ssa.now c.args.space.now.deps.now plan p c.requires.plan c.requires.tried t) in
    c.operands-operands.ensures ∙ c.requires.pack_table.operands c.args.pack c.requires.pack short
    ∙ ap (operands_of ds c.args.space.now.table.now c.args.space.now.ssa.now) (sym c.pack-last.ensures)
