use Rattle.std.proofs.Common.{◌≡◌, take, flat_map}
use Rattle.vg_packs.specs.Walk.{needs_for}
use Rattle.vg_packs.proofs.needs.packed_needs.Given as goal

abbrev pub invariant-packs : goal.invariant-packs
invariant-packs l =
    l.needs.items ≡ flat_map (needs_for l.table l.ssa l.deps l.unit) (take l.pack-index l.plan)
