use Rattle.std.proofs.Common.{◌+◌, ◌*◌}
use Rattle.vg_kernel.specs.Cost.{expression_cost}
use Rattle.vg_kernel.specs.Tree.{expression_of}
use Rattle.vg_ssa.proofs.values.Values.+number.Given as goal

abbrev pub decreases-number : goal.decreases-number
decreases-number l = 2 * expression_cost (expression_of l.expression.now) + 1

abbrev pub decreases-number_single : goal.decreases-number_single
decreases-number_single l = 2 * expression_cost (expression_of l.x.now) + 2

abbrev pub decreases-number_pair : goal.decreases-number_pair
decreases-number_pair l = 2 * (expression_cost (expression_of l.x.now) + expression_cost (expression_of l.y.now)) + 2

abbrev pub decreases-number_choice : goal.decreases-number_choice
decreases-number_choice l = 2 * (expression_cost (expression_of l.c.now) + expression_cost (expression_of l.x.now) + expression_cost (expression_of l.y.now)) + 2
