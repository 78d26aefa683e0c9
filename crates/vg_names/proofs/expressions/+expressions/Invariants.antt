-- The measure: an expression inside another is smaller; at one size the functions stand in the order of their calls.
-- The loop: what is resolved from here on, after the arguments that are done, is what all arguments are.
use Rattle.std.proofs.Common.{◌≡◌, ◌≤◌, ◌+◌, ◌*◌, map}
use Rattle.std.specs.Prelude.{max}
use Rattle.vg_pseudo.specs.Resolve.{all_resolved}
use Rattle.vg_pseudo.specs.Tree.{arguments_of}
use Rattle.vg_pseudo.specs.declared.expression.Arguments.{size-Arguments}
use Rattle.vg_pseudo.specs.declared.expression.Expr.{size-Expr}
use Rattle.vg_names.specs.Naming.{all_behind}
use Rattle.vg_names.specs.Views.{expr_of}
use Rattle.vg_names.proofs.expressions.+expressions.Given as goal

abbrev pub decreases-all_resolved : goal.decreases-all_resolved
decreases-all_resolved l = 4 * size-Arguments l.arguments.now + 1

abbrev pub decreases-binary : goal.decreases-binary
decreases-binary l = 4 * max (size-Expr l.left.now) (size-Expr l.right.now) + 1

abbrev pub decreases-bit : goal.decreases-bit
decreases-bit l = 4 * size-Expr l.index.now + 1

abbrev pub decreases-call : goal.decreases-call
decreases-call l = 4 * size-Arguments l.arguments.now + 2

abbrev pub decreases-choice : goal.decreases-choice
decreases-choice l = 4 * max (size-Expr l.condition.now) (max (size-Expr l.first.now) (size-Expr l.second.now)) + 1

abbrev pub decreases-element : goal.decreases-element
decreases-element l = 4 * size-Expr l.index.now + 1

abbrev pub decreases-next_argument : goal.decreases-next_argument
decreases-next_argument l = 4 * size-Arguments l.arguments.now

abbrev pub decreases-resolved : goal.decreases-resolved
decreases-resolved l = 4 * size-Expr l.expr.now

abbrev pub decreases-slice : goal.decreases-slice
decreases-slice l = 4 * max (size-Expr l.high.now) (size-Expr l.low.now) + 1

abbrev pub decreases-unary : goal.decreases-unary
decreases-unary l = 4 * size-Expr l.operand.now + 1

abbrev pub invariant-all_resolved-arguments : goal.invariant-all_resolved-arguments
invariant-all_resolved-arguments l = record {
  same : all_behind (map expr_of l.done.items) (all_resolved l.scope (arguments_of l.left)) ≡ all_resolved l.scope (arguments_of l.fn.arguments);
  inside : size-Arguments l.left ≤ size-Arguments l.fn.arguments;
}
