use Rattle.vg_cost.proofs.LineSteps.{Walked}
use Rattle.vg_cost.proofs.lines.lines_below.Given as goal

abbrev pub invariant-units : goal.invariant-units
invariant-units l = Walked l.ssa l.packed l.fn.marks l.marks l.end l.left l.lines

abbrev pub decreases-units : goal.decreases-units
decreases-units l = l.left
