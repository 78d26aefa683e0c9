use Rattle.std.proofs.Common.{◌≡◌, ◌++◌, length}
use Rattle.vg_program.specs.Text.{registers_text}
use Rattle.vg_program.proofs.printing.put_registers.Given as goal

abbrev pub invariant-registers : goal.invariant-registers
invariant-registers l = l.to.items ++ registers_text l.rest ≡ l.initial.to.items ++ registers_text l.fn.registers

abbrev pub decreases-registers : goal.decreases-registers
decreases-registers l = length l.rest
