use Rattle.std.proofs.Common.{◌≡◌, map, take}
use Rattle.vg_shapes.specs.Description.{description_of}
use Rattle.vg_gather.specs.Recipes.{recipe_of}
use Rattle.vg_gather.proofs.gathering.recipes_of.Given as goal

abbrev pub invariant-operands : goal.invariant-operands
invariant-operands l =
    l.recipes.items ≡ map (recipe_of (map description_of l.descriptions) l.ssa l.plan) (take l.operand-index l.operands)
