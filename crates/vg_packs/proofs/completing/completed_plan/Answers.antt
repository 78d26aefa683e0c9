use Rattle.std.proofs.Common.{◌∙◌, ap, map}
use Rattle.vg_kernel_plans.specs.Completed.{turns_of}
use Rattle.vg_kernel_plans.specs.Fed.{packing_by}
use Rattle.vg_plans.specs.Completed.{completed}
use Rattle.vg_shapes.specs.Description.{description_of}
use Rattle.vg_packs.proofs.Completion.{in-turn}
use Rattle.vg_packs.proofs.completing.completed_plan.Goals as goal

pub growing-requires-clause-plan : goal.growing-requires-clause-plan
growing-requires-clause-plan c =
    in-turn c.args.groups.now.choice (map description_of c.args.descriptions.now) c.args.table.now c.args.ssa.now c.args.deps.now c.args.plan.now c.requires.plan

pub returns : goal.returns
returns c =
    c.in_ok-whole.ensures
    ∙ ap (completed (packing_by c.args.groups.now.choice (map description_of c.args.descriptions.now) c.args.table.now c.args.ssa.now c.args.deps.now) (turns_of c.args.ssa.now)) c.in_ok-start.ensures.packs
