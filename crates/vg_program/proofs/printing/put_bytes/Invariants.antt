use Rattle.std.proofs.Common.{◌≡◌, ◌++◌, length}
use Rattle.vg_program.specs.Vectors.{hex_text}
use Rattle.vg_program.proofs.printing.put_bytes.Given as goal

abbrev pub invariant-bytes : goal.invariant-bytes
invariant-bytes l = l.to.items ++ hex_text l.rest ≡ l.initial.to.items ++ hex_text l.fn.bytes

abbrev pub decreases-bytes : goal.decreases-bytes
decreases-bytes l = length l.rest
