use Rattle.std.proofs.Common.{◌∙◌, ap, subst, map}
use Rattle.std.specs.Prelude.{◌+◌, length}
use Rattle.vg_shapes.specs.Description.{description_of}
use Rattle.vg_shapes.specs.Units.{arguments}
use Rattle.vg_kernel_plans.specs.Packing.{falling_units}
use Rattle.vg_emission.specs.Program.{all_inserted, needed_behind, takes_in}
use Rattle.vg_emit.specs.Marks.{Mark}
use Rattle.vg_emit.proofs.JobIs.{job-is}
use Rattle.vg_emit.proofs.emitting.job_for.Goals as goal

pub returns : goal.returns
returns c =
    let ds = map description_of c.args.descriptions.now in
    let ssa = c.args.ssa.now in
    let packs = c.args.packs.now in
    let takes = c.in_ok-takes.ensures ∙ ap (takes_in ds c.args.table.now ssa packs) c.as_slice-all.ensures.value in
    let needed =
    subst (λ os. Mark (arguments ssa + length ssa.units) c.in_ok-needed.needed (needed_behind ssa packs (all_inserted c.args.recipes.now os) (falling_units ssa)))
    c.as_slice-all.ensures.value c.in_ok-needed.ensures
    in
    job-is ds c.args.table.now ssa packs c.args.recipes.now c.args.operands.items c.in_ok-takes.takes.items
    c.in_ok-needed.needed c.requires.operands takes needed
