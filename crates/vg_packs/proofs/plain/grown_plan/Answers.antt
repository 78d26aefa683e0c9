use Rattle.std.proofs.Common.{map}
use Rattle.vg_kernel_plans.specs.Completed.{turns_of}
use Rattle.vg_kernel_plans.specs.Fed.{unfed}
use Rattle.vg_shapes.specs.Description.{description_of}
use Rattle.vg_packs.proofs.Completion.{among}
use Rattle.vg_packs.proofs.plain.grown_plan.Goals as goal

pub returns-clause-plain : goal.returns-clause-plain
returns-clause-plain c =
    among unfed (map description_of c.args.descriptions.now) c.args.table.now c.args.ssa.now c.args.deps.now (turns_of c.args.ssa.now)
    c.args.groups.items c.in_ok-plan.plan.packs.items c.push_each.new.plan.packs.items c.in_ok-grown.grown.packs.items
    c.in_ok-plan.ensures.packs c.in_ok-push_each.ensures.plan c.in_ok-grown.ensures.plan
