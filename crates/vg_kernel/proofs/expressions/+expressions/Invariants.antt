-- The measure: an expression inside another has less room; in one room the functions stand in the order of their calls.
-- The loop over levels: what is read so far is what this level reads. The loop over operators: what is read from here on
-- is what was to be read.
use Rattle.std.proofs.Common.{◌≡◌, ◌≤◌, ◌+◌, ◌-◌, ◌*◌, Ok}
use Rattle.vg_kernel.specs.Expressions.{joined_at, level_at, expression_at}
use Rattle.vg_kernel.specs.Scanning.{part_of, scan_of}
use Rattle.vg_kernel.proofs.expressions.+expressions.Given as goal

abbrev pub decreases-at_level : goal.decreases-at_level
decreases-at_level l = 16 * l.room + 8

abbrev pub decreases-call : goal.decreases-call
decreases-call l = 16 * l.room + 5

abbrev pub decreases-expression : goal.decreases-expression
decreases-expression l = 16 * l.room

abbrev pub decreases-join : goal.decreases-join
decreases-join l = 16 * l.room + 2

abbrev pub decreases-joined : goal.decreases-joined
decreases-joined l = 16 * l.room + 3

abbrev pub decreases-named : goal.decreases-named
decreases-named l = 16 * l.room + 6

abbrev pub decreases-operand : goal.decreases-operand
decreases-operand l = 16 * l.room + 7

abbrev pub decreases-resize : goal.decreases-resize
decreases-resize l = 16 * l.room + 4

abbrev pub decreases-select : goal.decreases-select
decreases-select l = 16 * l.room + 4

abbrev pub decreases-shift : goal.decreases-shift
decreases-shift l = 16 * l.room + 4

abbrev pub decreases-two : goal.decreases-two
decreases-two l = 16 * l.room + 4

abbrev pub decreases-whole : goal.decreases-whole
decreases-whole l = 16 * l.room + 1

abbrev pub invariant-at_level-levels : goal.invariant-at_level-levels
invariant-at_level-levels l = record {
  some : l.done ≤ l.level;
  read : level_at l.names (expression_at l.names l.room) l.room l.done (scan_of l.fn.scan) ≡ Ok (part_of l.left);
  shallow : l.left.depth ≤ l.room + 1;
}

abbrev pub decreases-at_level-levels : goal.decreases-at_level-levels
decreases-at_level-levels l = l.level - l.done

abbrev pub invariant-joined-joins : goal.invariant-joined-joins
invariant-joined-joins l = record {
  read : joined_at (expression_at l.names l.room) l.level l.room l.joins (part_of l.left) ≡ joined_at (expression_at l.names l.room) l.level l.room l.room (part_of l.initial.left);
  shallow : l.left.depth ≤ l.room + 1;
}

abbrev pub decreases-joined-joins : goal.decreases-joined-joins
decreases-joined-joins l = l.joins
