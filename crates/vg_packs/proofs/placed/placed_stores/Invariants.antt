use Rattle.std.proofs.Common.{◌≡◌}
use Rattle.vg_packs.specs.Placed.{placed_from}
use Rattle.vg_packs.proofs.placed.placed_stores.Given as goal

abbrev pub invariant-units : goal.invariant-units
invariant-units l = l.stores.items ≡ placed_from l.ssa l.first l.index
