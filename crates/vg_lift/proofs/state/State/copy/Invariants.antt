use Rattle.std.proofs.Common.{◌≡◌}
use Rattle.std.specs.Prelude.{take}
use Rattle.vg_lift.proofs.state.State.copy.Given as goal

abbrev pub invariant-registers : goal.invariant-registers
invariant-registers l = l.registers.items ≡ take l.register-index l.self.registers.items
