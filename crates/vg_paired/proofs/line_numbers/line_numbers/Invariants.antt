use Rattle.std.proofs.Common.{◌≡◌, ◌≤◌, length}
use Rattle.vg_paired.specs.Sweeps.{AreLinesFrom}
use Rattle.vg_paired.proofs.line_numbers.line_numbers.Given as goal

abbrev pub invariant-lines : goal.invariant-lines
invariant-lines l = (l.left ≤ length l.lines) × AreLinesFrom l.lines l.left l.numbers.items × (length l.numbers.items ≡ l.count)

abbrev pub decreases-lines : goal.decreases-lines
decreases-lines l = l.left
