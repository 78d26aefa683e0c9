use Rattle.std.proofs.Common.{[], map, refl}
use Rattle.vg_kernel_plans.specs.Packing.{packing}
use Rattle.vg_plans.specs.World.{inserted, recipe_cost}
use Rattle.vg_shapes.specs.Description.{description_of}
use Rattle.vg_cost.proofs.Steps.{flat_more, sum_more}
use Rattle.vg_cost.proofs.recipes.gather.Goals as goal

pub operands-preserved : goal.operands-preserved
operands-preserved c =
    let w = packing (map description_of c.args.descriptions.now) [] c.args.ssa.now [] in
    let operand = c.operand-item.result in
    record {
      cost =
          sum_more c.args.operands.now c.operands.operand-index operand operand c.operands-test.true c.operand-item.is
          (recipe_cost w c.args.packs.now) _ _ _ c.operands.invariant.cost c.in_ok-more.ensures.cost c.in_ok-cost.ensures;
      values =
          flat_more c.args.operands.now c.operands.operand-index operand operand c.operands-test.true c.operand-item.is
          (inserted w c.args.packs.now) _ _ _ c.operands.invariant.values refl c.in_ok-more.ensures.values;
    }
