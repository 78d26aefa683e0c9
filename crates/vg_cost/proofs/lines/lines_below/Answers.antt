use Rattle.std.proofs.Common.{refl, ◌-◌, arith}
use Rattle.vg_shapes.specs.Units.{unit_at}
use Rattle.vg_cost.proofs.LineSteps.{begins, ends, goes_on}
use Rattle.vg_cost.proofs.lines.lines_below.Goals as goal

pub units-init : goal.units-init
units-init c = begins _ _ _ _ c.requires.marks_long

pub units-preserved : goal.units-preserved
units-preserved c =
    goes_on c.args.ssa.now c.args.packed.now _ c.units.marks _ c.args.end c.units.left (c.units.left - 1) c.units.lines _ _ _ _
    (unit_at c.args.ssa.now (c.units.left - 1)) refl (omega arith) c.units.invariant refl refl
    c.visit_number-line.ensures.lines c.visit_number-line.ensures.marks c.in_ok-lines.ensures

pub returns : goal.returns
returns c = ends c.args.ssa.now c.args.packed.now _ c.units.marks c.args.end c.units.left c.units.lines c.units-test.false c.units.invariant
