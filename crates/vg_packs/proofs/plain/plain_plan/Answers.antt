use Rattle.std.proofs.Common.{◌∙◌, ap, map, subst, sym}
use Rattle.vg_kernel_plans.specs.Completed.{turns_of}
use Rattle.vg_kernel_plans.specs.Packing.{packing}
use Rattle.vg_shapes.specs.Description.{description_of}
use Rattle.vg_packs.specs.Plain.{plain_among}
use Rattle.vg_packs.specs.Walk.{IsFree}
use Rattle.vg_packs.proofs.plain.plain_plan.Goals as goal

pub returns-clause-plain : goal.returns-clause-plain
returns-clause-plain c =
    c.from_vec.ensures ∙ c.into_packs.ensures ∙ c.in_ok-plan.ensures.plain
    ∙ ap (plain_among (packing (map description_of c.args.descriptions.now) c.args.table.now c.args.ssa.now c.args.deps.now) (turns_of c.args.ssa.now)) c.in_ok-groups.ensures

pub returns-clause-free : goal.returns-clause-free
returns-clause-free c =
    subst (IsFree c.args.table.now c.args.ssa.now c.args.deps.now) (sym (c.from_vec.ensures ∙ c.into_packs.ensures)) c.in_ok-plan.ensures.grown.free
