use Rattle.std.proofs.Common.{◌≡◌, map, take}
use Rattle.vg_pseudo.specs.Resolve.{param_register}
use Rattle.vg_names.proofs.given_registers.param_registers.Given as goal

abbrev pub invariant-loop-param : goal.invariant-loop-param
invariant-loop-param l = l.registers ≡ map param_register (take l.param-index l.params)
