use Rattle.std.proofs.Common.{◌∙◌, ap, refl, subst, sym}
use Rattle.std.specs.Prelude.{None}
use Rattle.vg_beam.specs.declared.candidate.Candidate.{Candidate}
use Rattle.vg_beam.specs.declared.priced_plan.PricedPlan.{PricedPlan}
use Rattle.vg_beam.specs.Candidate.{IsPlaced}
use Rattle.vg_beam.specs.Priced.{priced}
use Rattle.vg_beam.proofs.Candidates.{own-prices}
use Rattle.vg_beam.proofs.Growing.{OfSome, least-is, least-plan, plan_or}
use Rattle.vg_beam.proofs.priced_plan.lesser.Goals as goal

pub plan_of-requires-clause-parent : goal.plan_of-requires-clause-parent
plan_of-requires-clause-parent c =
    let is = IsPlaced c.args.pack_table.now.packs.items c.args.level.now in
    (subst (OfSome is) (sym c.least_below.ensures ∙ c.in-Some.is)
    (least-is is (λ (q : Candidate). q.cost) c.args.best.cost None c.args.met.now tt c.requires)).parent

pub plan_of-requires-clause-pack : goal.plan_of-requires-clause-pack
plan_of-requires-clause-pack c =
    let is = IsPlaced c.args.pack_table.now.packs.items c.args.level.now in
    (subst (OfSome is) (sym c.least_below.ensures ∙ c.in-Some.is)
    (least-is is (λ (q : Candidate). q.cost) c.args.best.cost None c.args.met.now tt c.requires)).pack

pub returns-in-None : goal.returns-in-None
returns-in-None c =
    let with_cost = priced c.args.pack_table.now.packs.items c.args.level.now in
    ap (plan_or with_cost (λ (q : Candidate). q.cost) (λ (p : PricedPlan). p.cost) c.args.best) (sym c.in-None.is ∙ c.least_below.ensures)
    ∙ least-plan with_cost (λ (q : Candidate). q.cost) (λ (p : PricedPlan). p.cost) c.args.best c.args.best.cost None c.args.met.now refl
    (own-prices c.args.pack_table.now.packs.items c.args.level.now c.args.met.now)

pub returns-in_ok-plan-in-Some : goal.returns-in_ok-plan-in-Some
returns-in_ok-plan-in-Some c =
    let with_cost = priced c.args.pack_table.now.packs.items c.args.level.now in
    ap (λ l. record { plan = l; cost = c.in-Some.candidate.cost }) c.in_ok-plan-in-Some.ensures
    ∙ ap (plan_or with_cost (λ (q : Candidate). q.cost) (λ (p : PricedPlan). p.cost) c.args.best) (sym c.in-Some.is ∙ c.least_below.ensures)
    ∙ least-plan with_cost (λ (q : Candidate). q.cost) (λ (p : PricedPlan). p.cost) c.args.best c.args.best.cost None c.args.met.now refl
    (own-prices c.args.pack_table.now.packs.items c.args.level.now c.args.met.now)
