use Rattle.std.proofs.Common.{◌-◌}
use Rattle.vg_rewrite.specs.Marks.{keeps, MarkedSoFar, numbers}
use Rattle.vg_shapes.specs.Units.{arguments}
use Rattle.vg_rewrite.proofs.kept.kept_loads.Given as goal

-- the marks of the units so far
abbrev pub invariant-values : goal.invariant-values
invariant-values l = MarkedSoFar (keeps l.ssa) (numbers l.ssa) (arguments l.ssa) l.value l.marks.items

abbrev pub decreases-values : goal.decreases-values
decreases-values l = l.count - l.value
