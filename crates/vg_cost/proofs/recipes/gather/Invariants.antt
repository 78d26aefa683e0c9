use Rattle.std.proofs.Common.{◌≡◌, [], map, take}
use Rattle.std.specs.Prelude.{flat_map, sum_by}
use Rattle.vg_kernel_plans.specs.Packing.{packing}
use Rattle.vg_plans.specs.World.{inserted, recipe_cost}
use Rattle.vg_shapes.specs.Description.{description_of}
use Rattle.vg_cost.proofs.recipes.gather.Given as goal

abbrev pub invariant-operands : goal.invariant-operands
invariant-operands l =
    let w = packing (map description_of l.descriptions) [] l.ssa [] in
    record {
      cost : l.cost ≡ sum_by (recipe_cost w l.packs) (take l.operand-index l.operands);
      values : l.values.items ≡ flat_map (inserted w l.packs) (take l.operand-index l.operands);
    }
