use Rattle.std.proofs.Common.{map}
use Rattle.vg_kernel_plans.specs.Completed.{turns_of}
use Rattle.vg_kernel_plans.specs.Fed.{fed_aligned, packing_by}
use Rattle.vg_plans.specs.Completed.{careful_plan}
use Rattle.vg_plans.specs.PlainPlan.{plain_plan}
use Rattle.vg_shapes.specs.Description.{description_of}
use Rattle.vg_beam.proofs.Chosen.{by-fed, first-below, is-chosen-fed, short-by}
use Rattle.vg_beam.proofs.fed.choose_fed.Goals as goal

pub first_fed-requires-clause-short : goal.first_fed-requires-clause-short
first_fed-requires-clause-short c =
    short-by (map description_of c.args.descriptions.now) c.args.table.now c.args.ssa.now c.args.deps.now c.args.width
    fed_aligned c.in_ok-groups.groups.choice c.in_ok-groups.ensures.choice c.requires.short

pub search_completed-requires-clause-short : goal.search_completed-requires-clause-short
search_completed-requires-clause-short c =
    short-by (map description_of c.args.descriptions.now) c.args.table.now c.args.ssa.now c.args.deps.now c.args.width
    fed_aligned c.in_ok-groups.groups.choice c.in_ok-groups.ensures.choice c.requires.short

pub search_completed-requires-clause-least : goal.search_completed-requires-clause-least
search_completed-requires-clause-least c =
    let w = packing_by c.in_ok-groups.groups.choice (map description_of c.args.descriptions.now) c.args.table.now c.args.ssa.now c.args.deps.now in
    first-below (map description_of c.args.descriptions.now) c.args.table.now c.args.ssa.now c.args.deps.now c.args.width
    c.in_ok-first.first.plan (plain_plan w (turns_of c.args.ssa.now)) (careful_plan w (turns_of c.args.ssa.now)) c.in_ok-first.ensures.plan

pub returns-clause-plan : goal.returns-clause-plan
returns-clause-plan c =
    by-fed (map description_of c.args.descriptions.now) c.args.table.now c.args.ssa.now c.args.deps.now c.args.width
    c.in_ok-groups.groups.choice c.in_ok-plan.plan c.in_ok-first.first.plan c.sizes_of-sizes.result
    c.in_ok-groups.ensures.choice c.sizes_of-sizes.ensures c.in_ok-first.ensures.plan c.in_ok-plan.ensures

pub returns-clause-chosen : goal.returns-clause-chosen
returns-clause-chosen c =
    is-chosen-fed (map description_of c.args.descriptions.now) c.args.table.now c.args.ssa.now c.args.deps.now c.args.width
    c.chosen_fed_plans_fit.ensures c.chosen_fed_plans_are_optimal.ensures c.plans_hold_by_choice.ensures c.in_ok-plan.plan
    (by-fed (map description_of c.args.descriptions.now) c.args.table.now c.args.ssa.now c.args.deps.now c.args.width
    c.in_ok-groups.groups.choice c.in_ok-plan.plan c.in_ok-first.first.plan c.sizes_of-sizes.result
    c.in_ok-groups.ensures.choice c.sizes_of-sizes.ensures c.in_ok-first.ensures.plan c.in_ok-plan.ensures)
