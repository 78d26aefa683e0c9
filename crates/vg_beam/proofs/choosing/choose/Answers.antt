use Rattle.std.proofs.Common.{map}
use Rattle.vg_kernel_plans.specs.Fed.{unfed}
use Rattle.vg_shapes.specs.Description.{description_of}
use Rattle.vg_beam.proofs.Chosen.{by-search, is-chosen, short-by}
use Rattle.vg_beam.proofs.choosing.choose.Goals as goal

pub search-requires-clause-short : goal.search-requires-clause-short
search-requires-clause-short c =
    short-by (map description_of c.args.descriptions.now) c.args.table.now c.args.ssa.now c.args.deps.now c.args.width
    unfed c.in_ok-groups.groups.choice c.in_ok-groups.ensures.choice c.requires.short

pub returns-clause-plan : goal.returns-clause-plan
returns-clause-plan c =
    by-search (map description_of c.args.descriptions.now) c.args.table.now c.args.ssa.now c.args.deps.now c.args.width
    c.in_ok-groups.groups.choice c.in_ok-plan.plan c.in_ok-first.first.plan c.sizes_of-sizes.result
    c.in_ok-groups.ensures.choice c.sizes_of-sizes.ensures c.in_ok-first.ensures.plan c.in_ok-plan.ensures

pub returns-clause-chosen : goal.returns-clause-chosen
returns-clause-chosen c =
    is-chosen (map description_of c.args.descriptions.now) c.args.table.now c.args.ssa.now c.args.deps.now c.args.width
    c.chosen_plans_fit.ensures c.chosen_plans_are_optimal.ensures c.kernel_plans_are_short.ensures c.in_ok-plan.plan
    (by-search (map description_of c.args.descriptions.now) c.args.table.now c.args.ssa.now c.args.deps.now c.args.width
    c.in_ok-groups.groups.choice c.in_ok-plan.plan c.in_ok-first.first.plan c.sizes_of-sizes.result
    c.in_ok-groups.ensures.choice c.sizes_of-sizes.ensures c.in_ok-first.ensures.plan c.in_ok-plan.ensures)
