use Rattle.std.proofs.Common.{◌≡◌, map, take}
use Rattle.std.specs.Prelude.{flat_map}
use Rattle.vg_shapes.specs.Description.{description_of}
use Rattle.vg_cost.specs.Had.{costs_had}
use Rattle.vg_cost.specs.Shuffling.{shuffle_at}
use Rattle.vg_cost.proofs.scan.costs_of.Given as goal

abbrev pub invariant-numbers : goal.invariant-numbers
invariant-numbers l =
    let ds = map description_of l.descriptions in
    l.costs.items ≡ costs_had ds l.ssa l.packs (flat_map (shuffle_at ds l.operand) (take l.number-index l.numbers))
