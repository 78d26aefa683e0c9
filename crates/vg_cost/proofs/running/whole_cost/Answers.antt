use Rattle.vg_cost.proofs.LineSteps.{by_lines}
use Rattle.vg_cost.proofs.running.whole_cost.Goals as goal

pub returns : goal.returns
returns c =
    by_lines c.args.ssa.now c.args.marks.now _ c.args.price c.args.recipes c.in_ok-packed.packed c.in_ok-lines.lines c.in_ok-end.end _
    c.in_ok-end.ensures c.in_ok-packed.ensures c.in_ok-lines.ensures c.plus-2.ensures
