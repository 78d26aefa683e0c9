use Rattle.std.proofs.Common.{◌≡◌, filter, map, take}
use Rattle.vg_names.specs.Registers.{register_view, has_sign}
use Rattle.vg_names.proofs.registers.signed_of.Given as goal

abbrev pub invariant-registers : goal.invariant-registers
invariant-registers l = map (λ r. register_view r.now) l.signed.items ≡ filter has_sign (map register_view (take l.register-index l.all))
