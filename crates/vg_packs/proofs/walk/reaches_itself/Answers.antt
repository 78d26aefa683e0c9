use Rattle.std.proofs.Common.{◌∙◌, false, ap, refl, subst, sym}
use Rattle.std.specs.Prelude.{nat_lt, replicate}
use Rattle.vg_plans.specs.World.{is_in}
use Rattle.vg_shapes.specs.Pack.{units_of}
use Rattle.vg_packs.specs.Marks.{AddsMarks, AreMarks}
use Rattle.vg_packs.specs.Walk.{is_in_plan, node_needs}
use Rattle.vg_packs.proofs.Floors.{floor-settled}
use Rattle.vg_packs.proofs.walk.reaches_itself.Goals as goal

pub reaches_by-requires-clause-packed : goal.reaches_by-requires-clause-packed
reaches_by-requires-clause-packed c =
    subst (λ n. AreMarks n (is_in_plan c.args.plan.now) c.args.packed.now) c.requires.end c.requires.packed

pub reaches_by-requires-clause-own : goal.reaches_by-requires-clause-own
reaches_by-requires-clause-own c =
    c.as_mut_slice.ensures.value ∙ c.in_ok-own.ensures ∙ ap (λ n. replicate n false) c.requires.end

pub reaches_by-requires-clause-settled : goal.reaches_by-requires-clause-settled
reaches_by-requires-clause-settled c =
    let ns = node_needs c.args.table.now c.args.ssa.now c.args.deps.now c.args.plan.now in
    floor-settled ns (λ v. is_in v (units_of c.args.pack.now)) c.args.end c.args.floor (replicate c.args.end false) c.as_mut_slice-2.result.now
    refl (subst (AddsMarks (λ v. nat_lt v c.args.floor) (replicate c.args.end false)) (sym c.as_mut_slice-2.ensures.value) c.in_ok-marks.ensures)
    c.requires.inside c.requires.floor
