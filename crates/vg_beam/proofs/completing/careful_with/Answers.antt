use Rattle.std.proofs.Common.{◌∙◌, subst, sym}
use Rattle.std.specs.List.{AllByRecursion}
use Rattle.vg_kernel_plans.specs.Completed.{turns_of}
use Rattle.vg_kernel_plans.specs.Fed.{IsPlanBy}
use Rattle.vg_kernel_plans.specs.Taken.{IsShort}
use Rattle.vg_beam.specs.SearchSpace.{choice_of, cost_in, described, world_of}
use Rattle.vg_beam.proofs.Completion.{careful-none, careful-some, group-plan, lesser-is, none-completed, some-completed}
use Rattle.vg_beam.proofs.completing.careful_with.Goals as goal

pub completed_with-requires-clause-plan : goal.completed_with-requires-clause-plan
completed_with-requires-clause-plan c =
    let s = c.args.space.now in
    subst (IsPlanBy (choice_of s) (described s) s.table.now s.ssa.now s.deps.now) (sym c.as_slice.ensures) c.requires.plan

pub price-requires-clause-short : goal.price-requires-clause-short
price-requires-clause-short c =
    let s = c.args.space.now in
    let w = world_of s in
    let turns = turns_of s.ssa.now in
    let k = some-completed w turns c.args.best.plan c.as_slice.result.now c.args.group.now c.in_ok-whole.whole c.in-Some.plan c.as_slice.ensures c.in_ok-whole.ensures c.in-Some.is in
    subst (AllByRecursion IsShort) (sym k.1)
    (c.requires.short _ (group-plan (choice_of s) (described s) s.table.now s.ssa.now s.deps.now turns c.args.best.plan c.args.group.now c.requires.plan c.requires.group k.0))

pub returns-in-None-clause-plan : goal.returns-in-None-clause-plan
returns-in-None-clause-plan c =
    let s = c.args.space.now in
    careful-none (choice_of s) (described s) s.table.now s.ssa.now s.deps.now (turns_of s.ssa.now) c.args.best.plan c.args.group.now
    (none-completed (world_of s) (turns_of s.ssa.now) c.args.best.plan c.as_slice.result.now c.args.group.now c.in_ok-whole.whole c.as_slice.ensures c.in_ok-whole.ensures c.in-None.is)

pub returns-in_ok-priced-in-Some-clause-plan : goal.returns-in_ok-priced-in-Some-clause-plan
returns-in_ok-priced-in-Some-clause-plan c =
    let s = c.args.space.now in
    let cost = cost_in s in
    let turns = turns_of s.ssa.now in
    let k = some-completed (world_of s) turns c.args.best.plan c.as_slice.result.now c.args.group.now c.in_ok-whole.whole c.in-Some.plan c.as_slice.ensures c.in_ok-whole.ensures c.in-Some.is in
    let l = lesser-is cost c.args.best c.in_ok-priced-in-Some.priced c.lesser_plan.result c.requires.cost c.in_ok-priced-in-Some.ensures.cost c.lesser_plan.ensures in
    careful-some (choice_of s) (described s) s.table.now s.ssa.now s.deps.now turns c.args.best.plan c.in_ok-priced-in-Some.priced.plan c.lesser_plan.result.plan c.args.group.now
    k.0 (c.in_ok-priced-in-Some.ensures.plan ∙ k.1) l.0

pub returns-in_ok-priced-in-Some-clause-cost : goal.returns-in_ok-priced-in-Some-clause-cost
returns-in_ok-priced-in-Some-clause-cost c =
    let cost = cost_in c.args.space.now in
    (lesser-is cost c.args.best c.in_ok-priced-in-Some.priced c.lesser_plan.result c.requires.cost c.in_ok-priced-in-Some.ensures.cost c.lesser_plan.ensures).1
