use Rattle.std.proofs.Common.{◌≡◌, length}
use Rattle.vg_program.specs.Tokens.{signs_at}
use Rattle.vg_program.proofs.tokens.signs_at.Given as goal

abbrev pub invariant-signs : goal.invariant-signs
invariant-signs l = signs_at l.left l.rest ≡ signs_at l.fn.signs l.fn.text

abbrev pub decreases-signs : goal.decreases-signs
decreases-signs l = length l.left
