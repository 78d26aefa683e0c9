use Rattle.std.proofs.Common.{◌∙◌, ◌*◌, ◌∷◌, [], ap, length, subst, sym}
use Rattle.std.specs.List.{AllByRecursion}
use Rattle.vg_kernel_plans.specs.Packing.{packing, plain_of}
use Rattle.vg_kernel_plans.specs.Taken.{IsShort}
use Rattle.vg_plans.proofs.Plain.{plain-plan}
use Rattle.vg_plans.specs.Levels.{first_least}
use Rattle.vg_beam.specs.SearchSpace.{cost_in, described}
use Rattle.vg_beam.proofs.Completion.{lesser-is}
use Rattle.vg_beam.proofs.priced_plan.first_plan.Goals as goal

pub price-requires-clause-short : goal.price-requires-clause-short
price-requires-clause-short c =
    let s = c.args.space.now in
    subst (AllByRecursion IsShort) (sym c.in_ok-plain.ensures.plain)
    (c.requires.short (plain_of (described s) s.table.now s.ssa.now s.deps.now)
    (plain-plan (packing (described s) s.table.now s.ssa.now s.deps.now) (2 * length s.ssa.now.units)))

pub returns-clause-plan : goal.returns-clause-plan
returns-clause-plan c =
    let cost = cost_in c.args.space.now in
    (lesser-is cost c.in_ok-empty.empty c.in_ok-priced.priced c.lesser_plan.result c.in_ok-empty.ensures.cost c.in_ok-priced.ensures.cost c.lesser_plan.ensures).0
    ∙ ap (λ p. first_least cost p (c.in_ok-priced.priced.plan ∷ [])) c.in_ok-empty.ensures.plan
    ∙ ap (λ p. first_least cost [] (p ∷ [])) (c.in_ok-priced.ensures.plan ∙ c.in_ok-plain.ensures.plain)

pub returns-clause-cost : goal.returns-clause-cost
returns-clause-cost c =
    let cost = cost_in c.args.space.now in
    (lesser-is cost c.in_ok-empty.empty c.in_ok-priced.priced c.lesser_plan.result c.in_ok-empty.ensures.cost c.in_ok-priced.ensures.cost c.lesser_plan.ensures).1
