use Rattle.std.proofs.Common.{◌≡◌, ◌∙◌, ap, subst, sym}
use Rattle.vg_kernel_plans.specs.Fed.{IsPlanBy}
use Rattle.vg_plans.proofs.Lists.{every-kept}
use Rattle.vg_plans.specs.Levels.{first_least, kept_of}
use Rattle.vg_plans.specs.Members.{Every}
use Rattle.vg_beam.specs.SearchSpace.{choice_of, cost_in, described}
use Rattle.vg_beam.specs.declared.candidate.Candidate.{Candidate}
use Rattle.vg_beam.specs.declared.priced_plan.PricedPlan.{PricedPlan}
use Rattle.vg_beam.specs.Candidate.{CanGrow, IsCandidate, IsPlaced, grown_plan, grown_plans}
use Rattle.vg_beam.specs.Priced.{priced_plans}
use Rattle.vg_beam.proofs.Candidates.{all-growing, all-placed, all-plans, all-priced, each-priced, plans-priced}
use Rattle.vg_beam.proofs.Growing.{least-priced, map-kept}
use Rattle.vg_beam.proofs.turn.turn.Goals as goal

pub lesser-requires : goal.lesser-requires
lesser-requires c =
    let s = c.args.space.now in
    subst (Every (IsPlaced c.args.pack_table.now.packs.items c.args.level.now)) (sym c.as_slice.ensures.value)
    (all-placed (choice_of s) (described s) s.table.now s.ssa.now s.deps.now c.args.pack_table.now.packs.items c.args.level.now c.in_ok-met.met.items c.in_ok-met.ensures.candidates)

pub grow_all-requires-clause-candidates : goal.grow_all-requires-clause-candidates
grow_all-requires-clause-candidates c =
    let s = c.args.space.now in
    let can = CanGrow (choice_of s) (described s) s.table.now s.ssa.now c.args.pack_table.now.packs.items c.args.level.now in
    subst (Every can) (sym (c.as_slice-2.ensures.value ∙ c.in_ok-kept.ensures))
    (every-kept can (λ (q : Candidate). q.cost) c.args.width c.in_ok-met.met.items
    (all-growing (choice_of s) (described s) s.table.now s.ssa.now s.deps.now c.args.pack_table.now.packs.items c.args.level.now c.requires.short c.in_ok-met.met.items c.in_ok-met.ensures.candidates))

pub returns : goal.returns
returns c =
    let s = c.args.space.now in
    let packs = c.args.pack_table.now.packs.items in
    let plans = c.args.level.now in
    let met = c.in_ok-met.met.items in
    let cost = cost_in s in
    let is = IsCandidate (choice_of s) (described s) s.table.now s.ssa.now s.deps.now packs plans in
    let last = c.in_ok-next.ensures.plans ∙ ap (grown_plans packs plans) (c.as_slice-2.ensures.value ∙ c.in_ok-kept.ensures) in
    let kept =
    last
    ∙ map-kept (grown_plan packs plans) (λ (q : Candidate). q.cost) cost c.args.width met (each-priced (choice_of s) (described s) s.table.now s.ssa.now s.deps.now packs plans met c.in_ok-met.ensures.candidates)
    ∙ ap (kept_of cost c.args.width) c.in_ok-met.ensures.plans
    in
    let least = least-priced (λ (p : PricedPlan). p.plan) (λ (p : PricedPlan). p.cost) cost c.args.best (priced_plans packs plans met) c.requires.cost
    (all-priced (choice_of s) (described s) s.table.now s.ssa.now s.deps.now packs plans met c.in_ok-met.ensures.candidates)
    in
    let same = c.in_ok-better.ensures ∙ ap (λ l. first_least (λ (p : PricedPlan). p.cost) c.args.best (priced_plans packs plans l)) c.as_slice.ensures.value in
    let better =
    ap (λ (p : PricedPlan). p.plan) same ∙ least.0
    ∙ ap (first_least cost c.args.best.plan) (plans-priced packs plans met ∙ c.in_ok-met.ensures.plans)
    in
    record {
      pack_table = c.in_ok-next.ensures.pack_table;
      kept = c.in_ok-next.ensures.kept;
      plans = subst (Every (IsPlanBy (choice_of s) (described s) s.table.now s.ssa.now s.deps.now)) (sym last)
          (all-plans (choice_of s) (described s) s.table.now s.ssa.now s.deps.now packs plans _
          (every-kept is (λ (q : Candidate). q.cost) c.args.width met c.in_ok-met.ensures.candidates));
      level = kept;
      best = better;
      cost = subst (λ (p : PricedPlan). p.cost ≡ cost p.plan) (sym same) least.1;
    }
