use Rattle.std.proofs.Common.{◌+◌, ◌∙◌, length, subst, sym}
use Rattle.vg_shapes.specs.Pack.{units_of}
use Rattle.vg_shapes.specs.Units.{arguments}
use Rattle.vg_packs.specs.Marks.{AreMarks}
use Rattle.vg_packs.specs.Walk.{is_in_plan}
use Rattle.vg_packs.proofs.Cycles.{stays-same}
use Rattle.vg_packs.proofs.Marking.{packed-any}
use Rattle.vg_packs.proofs.plan_marks.PlanMarks.stays_above.Goals as goal

pub returns : goal.returns
returns c =
    let end = arguments c.args.ssa.now + length c.args.ssa.now.units in
    let set = subst (AreMarks end (is_in_plan c.args.plan.now)) (sym c.as_slice-packed.ensures.value) c.requires.marks in
    stays-same c.args.table.now c.args.ssa.now c.args.deps.now c.requires.names c.args.plan.now c.args.pack.now c.overlaps-overlap.result c.in_ok-reached.reached
    c.requires.free
    (c.overlaps-overlap.ensures
    ∙ packed-any end c.args.plan.now c.as_slice-packed.result.now set (units_of c.args.pack.now))
    c.if-overlap.false c.in_ok-reached.ensures.way c.in_ok-reached.ensures.apart
