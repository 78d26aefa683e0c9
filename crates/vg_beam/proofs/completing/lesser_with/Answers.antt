use Rattle.std.proofs.Common.{◌∙◌, ◌∷◌, ◌≤◌, [], ap, arith, subst, sym}
use Rattle.std.proofs.lemmas.Bool.Decides.{nat_tests}
use Rattle.vg_kernel_plans.specs.Completed.{turns_of}
use Rattle.vg_kernel_plans.specs.Fed.{IsPlanBy}
use Rattle.vg_plans.specs.Completed.{completed}
use Rattle.vg_plans.specs.Levels.{first_least}
use Rattle.vg_beam.specs.BeamPlan.{plan_of}
use Rattle.vg_beam.specs.SearchSpace.{choice_of, cost_in, described, world_of}
use Rattle.vg_beam.proofs.Completion.{lesser-is, lesser-stays}
use Rattle.vg_beam.proofs.Dearer.{completed-dearer}
use Rattle.vg_beam.proofs.completing.lesser_with.Goals as goal

pub returns-then-dear-clause-plan : goal.returns-then-dear-clause-plan
returns-then-dear-clause-plan c =
    let s = c.args.space.now in
    let plan = plan_of c.args.kept.now in
    let price = c.price-price.ensures ∙ c.requires.stands.price in
    let dear = completed-dearer (choice_of s) (described s) s.table.now s.ssa.now s.deps.now (turns_of s.ssa.now) plan in
    let less : c.args.best.cost ≤ c.price-price.result = grind (arith, nat_tests, c.if-dear.true) in
    let own = c.requires.cost in
    lesser-stays (cost_in s) c.args.best.plan (completed (world_of s) (turns_of s.ssa.now) plan) (omega (arith, price, dear, less, own))

pub complete-requires-clause-plan : goal.complete-requires-clause-plan
complete-requires-clause-plan c =
    let s = c.args.space.now in
    subst (IsPlanBy (choice_of s) (described s) s.table.now s.ssa.now s.deps.now) (sym c.packs.ensures) c.requires.plan

pub returns-clause-plan : goal.returns-clause-plan
returns-clause-plan c =
    let s = c.args.space.now in
    (lesser-is (cost_in s) c.args.best c.in_ok-whole.whole c.lesser_plan.result c.requires.cost c.in_ok-whole.ensures.cost c.lesser_plan.ensures).0
    ∙ ap (λ p. first_least (cost_in s) c.args.best.plan (p ∷ []))
    (c.in_ok-whole.ensures.plan ∙ ap (completed (world_of s) (turns_of s.ssa.now)) c.packs.ensures)

pub returns-clause-cost : goal.returns-clause-cost
returns-clause-cost c =
    let s = c.args.space.now in
    (lesser-is (cost_in s) c.args.best c.in_ok-whole.whole c.lesser_plan.result c.requires.cost c.in_ok-whole.ensures.cost c.lesser_plan.ensures).1
