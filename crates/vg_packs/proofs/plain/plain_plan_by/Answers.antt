use Rattle.std.proofs.Common.{◌∙◌, map}
use Rattle.vg_kernel_plans.specs.Completed.{turns_of}
use Rattle.vg_shapes.specs.Description.{description_of}
use Rattle.vg_packs.proofs.Completion.{plain-by}
use Rattle.vg_packs.proofs.plain.plain_plan_by.Goals as goal

pub returns : goal.returns
returns c =
    plain-by c.args.choice (map description_of c.args.descriptions.now) c.args.table.now c.args.ssa.now c.args.deps.now (turns_of c.args.ssa.now)
    c.in_ok-groups.groups.items _ c.in_ok-groups.ensures
    (c.from_vec.ensures ∙ c.into_packs.ensures ∙ c.in_ok-plan.ensures.plain)
