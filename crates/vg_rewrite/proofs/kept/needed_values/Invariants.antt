use Rattle.std.proofs.Common.{◌-◌}
use Rattle.vg_rewrite.specs.Marks.{needs, MarkedSoFar, numbers}
use Rattle.vg_shapes.specs.Units.{arguments}
use Rattle.vg_rewrite.proofs.kept.needed_values.Given as goal

-- the marks of the units so far
abbrev pub invariant-users : goal.invariant-users
invariant-users l = MarkedSoFar (needs l.ssa) (numbers l.ssa) (arguments l.ssa) l.user l.marks.items

abbrev pub decreases-users : goal.decreases-users
decreases-users l = l.count - l.user
