use Rattle.std.proofs.Common.{◌∙◌, ◌∷◌, [], ap, subst, sym}
use Rattle.std.specs.List.{AllByRecursion}
use Rattle.vg_kernel_plans.specs.Completed.{turns_of}
use Rattle.vg_kernel_plans.specs.Taken.{IsShort}
use Rattle.vg_plans.proofs.Plain.{plain-plan}
use Rattle.vg_plans.specs.Completed.{careful_with_all}
use Rattle.vg_plans.specs.Levels.{first_least}
use Rattle.vg_plans.specs.PlainPlan.{plain_plan}
use Rattle.vg_beam.specs.SearchSpace.{cost_in, world_of}
use Rattle.vg_beam.proofs.Completion.{lesser-is}
use Rattle.vg_beam.proofs.completing.first_fed.Goals as goal

pub careful_plan-requires-clause-groups : goal.careful_plan-requires-clause-groups
careful_plan-requires-clause-groups c = c.as_slice.ensures.value ∙ c.in_ok-groups.ensures

pub price-requires-clause-short : goal.price-requires-clause-short
price-requires-clause-short c =
    let s = c.args.space.now in
    subst (AllByRecursion IsShort) (sym c.in_ok-plain.ensures) (c.requires.short _ (plain-plan (world_of s) (turns_of s.ssa.now)))

pub returns-clause-plan : goal.returns-clause-plan
returns-clause-plan c =
    let s = c.args.space.now in
    let cost = cost_in s in
    let plain = plain_plan (world_of s) (turns_of s.ssa.now) in
    let careful = c.in_ok-careful.ensures.plan ∙ ap (careful_with_all (world_of s) (turns_of s.ssa.now) []) (c.as_slice.ensures.value ∙ c.in_ok-groups.ensures) in
    let first = lesser-is cost c.in_ok-empty.empty c.in_ok-priced.priced c.lesser_plan-first.result c.in_ok-empty.ensures.cost c.in_ok-priced.ensures.cost c.lesser_plan-first.ensures in
    let last = lesser-is cost c.lesser_plan-first.result c.in_ok-careful.careful c.lesser_plan.result first.1 c.in_ok-careful.ensures.cost c.lesser_plan.ensures in
    last.0
    ∙ ap (λ p. first_least cost p (c.in_ok-careful.careful.plan ∷ [])) (first.0
    ∙ ap (λ p. first_least cost p (c.in_ok-priced.priced.plan ∷ [])) c.in_ok-empty.ensures.plan
    ∙ ap (λ p. first_least cost [] (p ∷ [])) (c.in_ok-priced.ensures.plan ∙ c.in_ok-plain.ensures))
    ∙ ap (λ p. first_least cost (first_least cost [] (plain ∷ [])) (p ∷ [])) careful

pub returns-clause-cost : goal.returns-clause-cost
returns-clause-cost c =
    let cost = cost_in c.args.space.now in
    let first = lesser-is cost c.in_ok-empty.empty c.in_ok-priced.priced c.lesser_plan-first.result c.in_ok-empty.ensures.cost c.in_ok-priced.ensures.cost c.lesser_plan-first.ensures in
    (lesser-is cost c.lesser_plan-first.result c.in_ok-careful.careful c.lesser_plan.result first.1 c.in_ok-careful.ensures.cost c.lesser_plan.ensures).1
