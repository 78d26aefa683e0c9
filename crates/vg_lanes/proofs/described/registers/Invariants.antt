use Rattle.std.proofs.Common.{◌≡◌, map, take}
use Rattle.vg_lanes.proofs.described.registers.Given as goal

abbrev pub invariant-params : goal.invariant-params
invariant-params l = l.widths.items ≡ map (λ p. p.register) (take l.param-index l.params)
