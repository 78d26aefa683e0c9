use Rattle.std.proofs.Common.{◌≡◌, None, drop, map}
use Rattle.vg_shapes.specs.Description.{description_of}
use Rattle.vg_gather.specs.Cheapest.{cheapest}
use Rattle.vg_gather.specs.Recipes.{ready_from}
use Rattle.vg_gather.proofs.shuffling.cheapest_shuffle.Given as goal

abbrev pub invariant-instances : goal.invariant-instances
invariant-instances l =
    let ds = map description_of l.descriptions in
    cheapest ds l.best (ready_from ds l.ssa l.packs l.operand l.index (map description_of (drop l.index l.descriptions)))
    ≡ cheapest ds None (ready_from ds l.ssa l.packs l.operand 0 ds)
