use Rattle.std.proofs.Common.{◌∙◌, ap, flat_map, map}
use Rattle.vg_kernel_plans.specs.Completed.{turns_of}
use Rattle.vg_kernel_plans.specs.Taken.{operands_of}
use Rattle.vg_shapes.specs.Description.{description_of}
use Rattle.vg_packs.proofs.Completion.{completed-by}
use Rattle.vg_packs.proofs.completing.completed.Goals as goal

pub returns : goal.returns
returns c =
    completed-by c.args.groups.now.choice (map description_of c.args.descriptions.now) c.args.table.now c.args.ssa.now c.args.deps.now (turns_of c.args.ssa.now)
    c.args.plan.packs.items c.in_ok-grown.grown.packs.items _ c.in_ok-operands.operands.items
    c.in_ok-grown.ensures.plan
    (c.in_ok-operands.ensures ∙ ap (flat_map (operands_of (map description_of c.args.descriptions.now) c.args.table.now c.args.ssa.now)) c.packs.ensures)
    (c.from_vec.ensures ∙ c.into_packs.ensures ∙ c.in_ok-feed_all.ensures.plan)
