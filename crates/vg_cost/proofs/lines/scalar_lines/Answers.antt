use Rattle.std.proofs.Common.{subst, sym}
use Rattle.std.specs.Prelude.{flat_map}
use Rattle.vg_shapes.specs.Pack.{units_of}
use Rattle.vg_cost.specs.Marks.{Has}
use Rattle.vg_cost.proofs.LineSteps.{by_marks}
use Rattle.vg_cost.proofs.lines.scalar_lines.Goals as goal

pub returns : goal.returns
returns c =
    by_marks c.args.ssa.now c.args.packs.now c.args.inserted.now _ _ c.in_ok-end.end _ c.in_ok-end.ensures
    (subst (Has c.in_ok-end.end (flat_map units_of c.args.packs.now)) (sym c.as_slice.ensures.value) c.in_ok-packed.ensures)
    (subst (Has c.in_ok-end.end c.args.inserted.now) (sym c.as_mut_slice.ensures.value) c.in_ok-needed.ensures)
    c.lines_below.ensures
