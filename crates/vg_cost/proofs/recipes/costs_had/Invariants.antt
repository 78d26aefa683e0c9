use Rattle.std.proofs.Common.{◌≡◌, map, take}
use Rattle.vg_kernel_plans.specs.Shuffles.{shuffles}
use Rattle.vg_shapes.specs.Description.{description_of}
use Rattle.vg_cost.specs.Had.{costs_had}
use Rattle.vg_cost.proofs.recipes.costs_had.Given as goal

abbrev pub invariant-instances : goal.invariant-instances
invariant-instances l =
    l.costs.items ≡ costs_had (map description_of l.descriptions) l.ssa l.packs (shuffles (map description_of (take l.description-index l.descriptions)) l.operand)
