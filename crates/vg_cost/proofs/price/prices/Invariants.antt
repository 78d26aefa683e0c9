use Rattle.std.proofs.Common.{◌≡◌, map, take}
use Rattle.std.specs.Prelude.{sum_by}
use Rattle.vg_kernel_plans.specs.Packing.{price_of}
use Rattle.vg_shapes.specs.Description.{description_of}
use Rattle.vg_cost.proofs.price.prices.Given as goal

abbrev pub invariant-packs : goal.invariant-packs
invariant-packs l = l.sum ≡ sum_by (price_of (map description_of l.descriptions)) (take l.pack-index l.packs)
