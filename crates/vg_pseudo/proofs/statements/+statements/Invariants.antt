-- The measure: statements inside another have less room; in one room the functions stand in the order of their calls.
-- The loops: what is read from here on is what was to be read.
use Rattle.std.proofs.Common.{◌≡◌, ◌≤◌, ◌+◌, ◌*◌, [], ◌∷◌, map}
use Rattle.vg_text.specs.Lexing.{reading}
use Rattle.vg_pseudo.specs.Reader.{items_behind, unread}
use Rattle.vg_pseudo.specs.Statements.{statement_follows, statement_at, else_if_follows, way_at, arm_follows, arm_at, block_at}
use Rattle.vg_pseudo.specs.Views.{block_of}
use Rattle.vg_pseudo.proofs.ItemLists.{Goes}
use Rattle.vg_pseudo.proofs.statements.+statements.Given as goal

abbrev pub decreases-statement : goal.decreases-statement
decreases-statement l = 16 * l.room

abbrev pub decreases-arm : goal.decreases-arm
decreases-arm l = 16 * l.room + 3

abbrev pub decreases-arm_items : goal.decreases-arm_items
decreases-arm_items l = 16 * l.room + 4

abbrev pub decreases-block : goal.decreases-block
decreases-block l = 16 * l.room + 2

abbrev pub decreases-block_items : goal.decreases-block_items
decreases-block_items l = 16 * l.room + 1

abbrev pub decreases-case_arms : goal.decreases-case_arms
decreases-case_arms l = 16 * l.room + 5

abbrev pub decreases-else_way : goal.decreases-else_way
decreases-else_way l = 16 * l.room + 3

abbrev pub decreases-for_loop : goal.decreases-for_loop
decreases-for_loop l = 16 * l.room + 5

abbrev pub decreases-headed : goal.decreases-headed
decreases-headed l = 16 * l.room + 6

abbrev pub decreases-if_ways : goal.decreases-if_ways
decreases-if_ways l = 16 * l.room + 5

abbrev pub decreases-more_ways : goal.decreases-more_ways
decreases-more_ways l = 16 * l.room + 4

abbrev pub decreases-way : goal.decreases-way
decreases-way l = 16 * l.room + 3

abbrev pub invariant-block_items-statements : goal.invariant-block_items-statements
invariant-block_items-statements l = record {
  goes : Goes statement_follows (statement_at l.definitions l.room)
      (items_behind statement_follows (statement_at l.definitions l.room) (map block_of l.initial.done.items) (reading l.initial.lexer))
      (map block_of l.done.items) (reading l.lexer);
  start : map block_of l.initial.done.items ≡ [];
  fewer : unread (reading l.lexer) ≤ unread (reading l.initial.lexer);
}

abbrev pub decreases-block_items-statements : goal.decreases-block_items-statements
decreases-block_items-statements l = unread (reading l.lexer)

abbrev pub invariant-more_ways-ways : goal.invariant-more_ways-ways
invariant-more_ways-ways l = record {
  goes : Goes else_if_follows (way_at l.definitions (block_at (statement_at l.definitions l.room)))
      (items_behind else_if_follows (way_at l.definitions (block_at (statement_at l.definitions l.room))) (map block_of l.initial.done.items) (reading l.initial.lexer))
      (map block_of l.done.items) (reading l.lexer);
  start : map block_of l.initial.done.items ≡ block_of l.fn.first ∷ [];
  fewer : unread (reading l.lexer) ≤ unread (reading l.initial.lexer);
}

abbrev pub decreases-more_ways-ways : goal.decreases-more_ways-ways
decreases-more_ways-ways l = unread (reading l.lexer)

abbrev pub invariant-arm_items-arms : goal.invariant-arm_items-arms
invariant-arm_items-arms l = record {
  goes : Goes arm_follows (arm_at (block_at (statement_at l.definitions l.room)))
      (items_behind arm_follows (arm_at (block_at (statement_at l.definitions l.room))) (map block_of l.initial.done.items) (reading l.initial.lexer))
      (map block_of l.done.items) (reading l.lexer);
  start : map block_of l.initial.done.items ≡ [];
  fewer : unread (reading l.lexer) ≤ unread (reading l.initial.lexer);
}

abbrev pub decreases-arm_items-arms : goal.decreases-arm_items-arms
decreases-arm_items-arms l = unread (reading l.lexer)
