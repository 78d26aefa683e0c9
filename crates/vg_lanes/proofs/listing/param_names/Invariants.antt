use Rattle.std.proofs.Common.{◌≡◌, map, take}
use Rattle.vg_lanes.proofs.listing.param_names.Given as goal

abbrev pub invariant-params : goal.invariant-params
invariant-params l = l.names.items ≡ map (λ p. p.name) (take l.param-index l.params)
