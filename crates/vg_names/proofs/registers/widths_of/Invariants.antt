use Rattle.std.proofs.Common.{◌≡◌, map, take}
use Rattle.vg_names.specs.Registers.{register_view}
use Rattle.vg_names.proofs.registers.widths_of.Given as goal

abbrev pub invariant-loop-register : goal.invariant-loop-register
invariant-loop-register l = l.widths.items ≡ map (λ r. r.width) (map register_view (take l.register-index l.all))
