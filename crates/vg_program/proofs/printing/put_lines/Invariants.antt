use Rattle.std.proofs.Common.{◌≡◌, ◌++◌, ◌≤◌, ◌+◌, length}
use Rattle.vg_program.specs.Text.{no_counts, lines_text}
use Rattle.vg_program.proofs.printing.put_lines.Given as goal

-- what stands and what is left to write are the whole, and no line defines more than one
abbrev pub invariant-lines : goal.invariant-lines
invariant-lines l = record {
  whole : l.to.items ++ lines_text l.params l.counts l.rest ≡ l.initial.to.items ++ lines_text l.params no_counts l.fn.lines;
  scalars : l.counts.scalars + length l.rest ≤ length l.fn.lines;
  vectors : l.counts.vectors + length l.rest ≤ length l.fn.lines;
}

abbrev pub decreases-lines : goal.decreases-lines
decreases-lines l = length l.rest
