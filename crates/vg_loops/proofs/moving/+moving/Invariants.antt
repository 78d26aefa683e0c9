use Rattle.std.proofs.Common.{◌+◌, ◌*◌}
use Rattle.vg_kernel.specs.declared.expression.KExpr.{size-KExpr}
use Rattle.vg_loops.proofs.moving.+moving.Given as goal

abbrev pub decreases-moved : goal.decreases-moved
decreases-moved l = 3 * size-KExpr l.expression.now + 1

abbrev pub decreases-moved_join : goal.decreases-moved_join
decreases-moved_join l = 3 * size-KExpr l.expression.now

abbrev pub decreases-moved_box : goal.decreases-moved_box
decreases-moved_box l = 3 * size-KExpr l.expression.now + 2
