-- The measure: the second of two expressions; at one size the functions stand in the order of their calls.
use Rattle.std.proofs.Common.{◌≡◌, ◌≤◌, ◌+◌, ◌*◌}
use Rattle.vg_pseudo.specs.Same.{all_same}
use Rattle.vg_pseudo.specs.Tree.{arguments_of}
use Rattle.vg_pseudo.specs.declared.expression.Arguments.{size-Arguments}
use Rattle.vg_pseudo.specs.declared.expression.Expr.{size-Expr}
use Rattle.vg_names.proofs.same.+same.Given as goal

abbrev pub decreases-all_same : goal.decreases-all_same
decreases-all_same l = 2 * size-Arguments l.second.now + 1

abbrev pub decreases-is_binary : goal.decreases-is_binary
decreases-is_binary l = 2 * size-Expr l.expr.now

abbrev pub decreases-is_bit : goal.decreases-is_bit
decreases-is_bit l = 2 * size-Expr l.expr.now

abbrev pub decreases-is_call : goal.decreases-is_call
decreases-is_call l = 2 * size-Expr l.expr.now

abbrev pub decreases-is_choice : goal.decreases-is_choice
decreases-is_choice l = 2 * size-Expr l.expr.now

abbrev pub decreases-is_element : goal.decreases-is_element
decreases-is_element l = 2 * size-Expr l.expr.now

abbrev pub decreases-is_slice : goal.decreases-is_slice
decreases-is_slice l = 2 * size-Expr l.expr.now

abbrev pub decreases-is_unary : goal.decreases-is_unary
decreases-is_unary l = 2 * size-Expr l.expr.now

abbrev pub decreases-same : goal.decreases-same
decreases-same l = 2 * size-Expr l.second.now + 1

abbrev pub invariant-all_same-arguments : goal.invariant-all_same-arguments
invariant-all_same-arguments l = record {
  same : all_same (arguments_of l.left) (arguments_of l.right) ≡ all_same (arguments_of l.fn.first) (arguments_of l.fn.second);
  inside : size-Arguments l.right ≤ size-Arguments l.fn.second;
}
