-- what was appended and the pieces that are left are the line
use Rattle.std.proofs.Common.{◌≡◌, ◌++◌, length, map}
use Rattle.vg_trial.specs.Trial.{line_text, piece_seen}
use Rattle.vg_trial.proofs.piece.put_line.Given as goal

abbrev pub invariant-pieces : goal.invariant-pieces
invariant-pieces l = l.to.items ++ line_text (map piece_seen l.rest) ≡ l.initial.to.items ++ line_text (map piece_seen l.fn.line)

abbrev pub decreases-pieces : goal.decreases-pieces
decreases-pieces l = length l.rest
