-- The measure: an expression inside another has less room; in one room the functions stand in the order of their calls.
-- The loops: what is read from here on is what was to be read.
use Rattle.std.proofs.Common.{◌≡◌, ◌≤◌, ◌+◌, ◌*◌, [], ◌∷◌, map}
use Rattle.std.specs.List.{All}
use Rattle.std.specs.Prelude.{codes}
use Rattle.vg_text.specs.Lexing.{reading}
use Rattle.vg_pseudo.specs.Reader.{accept_at, items_behind, unread}
use Rattle.vg_pseudo.specs.Expressions.{joined_at, expression_at}
use Rattle.vg_pseudo.specs.Views.{part_of}
use Rattle.vg_pseudo.proofs.ItemLists.{Goes}
use Rattle.vg_pseudo.proofs.expressions.+expressions.Given as goal

abbrev pub decreases-at_level : goal.decreases-at_level
decreases-at_level l = 32 * l.room + 9 + l.level

abbrev pub decreases-arguments : goal.decreases-arguments
decreases-arguments l = 32 * l.room + 2

abbrev pub decreases-behind : goal.decreases-behind
decreases-behind l = 32 * l.room + 5

abbrev pub decreases-bracket : goal.decreases-bracket
decreases-bracket l = 32 * l.room + 3

abbrev pub decreases-call : goal.decreases-call
decreases-call l = 32 * l.room + 3

abbrev pub decreases-choice_behind : goal.decreases-choice_behind
decreases-choice_behind l = 32 * l.room + 2

abbrev pub decreases-chosen : goal.decreases-chosen
decreases-chosen l = 32 * l.room + 4

abbrev pub decreases-compared : goal.decreases-compared
decreases-compared l = 32 * l.room + 4

abbrev pub decreases-element_behind : goal.decreases-element_behind
decreases-element_behind l = 32 * l.room + 3

abbrev pub decreases-element_index : goal.decreases-element_index
decreases-element_index l = 32 * l.room + 2

abbrev pub decreases-expression : goal.decreases-expression
decreases-expression l = 32 * l.room

abbrev pub decreases-form : goal.decreases-form
decreases-form l = 32 * l.room + 4

abbrev pub decreases-free : goal.decreases-free
decreases-free l = 32 * l.room + 5

abbrev pub decreases-function : goal.decreases-function
decreases-function l = 32 * l.room + 3

abbrev pub decreases-index : goal.decreases-index
decreases-index l = 32 * l.room + 1

abbrev pub decreases-join : goal.decreases-join
decreases-join l = 32 * l.room + 2

abbrev pub decreases-joined : goal.decreases-joined
decreases-joined l = 32 * l.room + 4

abbrev pub decreases-joined_one : goal.decreases-joined_one
decreases-joined_one l = 32 * l.room + 3

abbrev pub decreases-more_arguments : goal.decreases-more_arguments
decreases-more_arguments l = 32 * l.room + 1

abbrev pub decreases-named : goal.decreases-named
decreases-named l = 32 * l.room + 6

abbrev pub decreases-operand : goal.decreases-operand
decreases-operand l = 32 * l.room + 8

abbrev pub decreases-parenthesised : goal.decreases-parenthesised
decreases-parenthesised l = 32 * l.room + 2

abbrev pub decreases-plain : goal.decreases-plain
decreases-plain l = 32 * l.room + 7

abbrev pub decreases-prefixed : goal.decreases-prefixed
decreases-prefixed l = 32 * l.room + 2

abbrev pub decreases-slice_behind : goal.decreases-slice_behind
decreases-slice_behind l = 32 * l.room + 2

abbrev pub invariant-joined-joins : goal.invariant-joined-joins
invariant-joined-joins l = record {
  read : joined_at l.whole (expression_at l.definitions l.whole l.room) l.room l.level l.joins (part_of l.left) (reading l.lexer)
      ≡ joined_at l.whole (expression_at l.definitions l.whole l.room) l.room l.level l.room (part_of l.initial.left) (reading l.initial.lexer);
  fewer : unread (reading l.lexer) ≤ unread (reading l.initial.lexer);
  shallow : l.left.depth ≤ l.room + 1;
}

abbrev pub decreases-joined-joins : goal.decreases-joined-joins
decreases-joined-joins l = l.joins

abbrev pub invariant-more_arguments-more : goal.invariant-more_arguments-more
invariant-more_arguments-more l = record {
  goes : Goes (accept_at (codes ",")) (expression_at l.definitions l.whole l.room 8)
      (items_behind (accept_at (codes ",")) (expression_at l.definitions l.whole l.room 8) (map part_of l.initial.done.items) (reading l.initial.lexer))
      (map part_of l.done.items) (reading l.lexer);
  start : map part_of l.initial.done.items ≡ part_of l.fn.first ∷ [];
  fewer : unread (reading l.lexer) ≤ unread (reading l.initial.lexer);
  shallow : All (λ p. p.depth ≤ l.room) l.done.items;
}

abbrev pub decreases-more_arguments-more : goal.decreases-more_arguments-more
decreases-more_arguments-more l = unread (reading l.lexer)
