use Rattle.std.proofs.Common.{◌≡◌, map, take}
use Rattle.vg_pseudo.specs.Resolve.{define_register}
use Rattle.vg_names.proofs.given_registers.define_registers.Given as goal

abbrev pub invariant-loop-param : goal.invariant-loop-param
invariant-loop-param l = l.registers ≡ map define_register (take l.param-index l.params)
