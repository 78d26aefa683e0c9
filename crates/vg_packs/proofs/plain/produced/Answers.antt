use Rattle.std.proofs.Common.{◌∙◌, ap, flat_map, map}
use Rattle.vg_kernel_plans.specs.Completed.{turns_of}
use Rattle.vg_kernel_plans.specs.Packing.{packing}
use Rattle.vg_kernel_plans.specs.Taken.{operands_of}
use Rattle.vg_plans.specs.PlainPlan.{walk}
use Rattle.vg_shapes.specs.Description.{description_of}
use Rattle.vg_packs.proofs.plain.produced.Goals as goal

pub returns-clause-plan : goal.returns-clause-plan
returns-clause-plan c =
    let w = packing (map description_of c.args.descriptions.now) c.args.table.now c.args.ssa.now c.args.deps.now in
    c.in_ok-grown.ensures.plan
    ∙ ap (walk w (turns_of c.args.ssa.now) c.args.plan.packs.items)
    (c.in_ok-queue.ensures ∙ ap (flat_map (operands_of (map description_of c.args.descriptions.now) c.args.table.now c.args.ssa.now)) c.packs.ensures)
