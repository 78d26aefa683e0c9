use Rattle.std.proofs.Common.{◌≡◌, [], length}
use Rattle.vg_program.specs.Grammar.{registers_at}
use Rattle.vg_program.proofs.call_reading.registers_at.Given as goal

abbrev pub invariant-params : goal.invariant-params
invariant-params l = registers_at l.before l.left l.registers.items l.rest ≡ registers_at l.before l.fn.params [] l.fn.text

abbrev pub decreases-params : goal.decreases-params
decreases-params l = length l.left
