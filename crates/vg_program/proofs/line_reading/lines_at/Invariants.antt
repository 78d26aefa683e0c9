use Rattle.std.proofs.Common.{◌≡◌, ◌≤◌, ◌-◌, [], length, vec_len}
use Rattle.vg_program.specs.Before.{nothing_before}
use Rattle.vg_program.specs.Grammar.{lines_at}
use Rattle.vg_program.proofs.line_reading.lines_at.Given as goal

abbrev pub invariant-lines : goal.invariant-lines
invariant-lines l = record {
  same : lines_at (l.most - vec_len l.lines) l.before l.lines.items l.rest ≡ lines_at l.most (nothing_before l.headers l.params) [] l.fn.text;
  few : vec_len l.lines ≤ l.most;
  scalars : length l.before.scalars ≤ vec_len l.lines;
  vectors : length l.before.vectors ≤ vec_len l.lines;
}

abbrev pub decreases-lines : goal.decreases-lines
decreases-lines l = l.most - vec_len l.lines
