use Rattle.std.proofs.Common.{◌∙◌, ◌+◌, ℕ, List, ap, map}
use Rattle.vg_kernel_plans.specs.Packing.{packing}
use Rattle.vg_plans.specs.World.{plan_cost}
use Rattle.vg_shapes.specs.Description.{description_of}
use Rattle.vg_cost.proofs.Sums.{all_parts, whatever}
use Rattle.vg_cost.proofs.cost.plan_cost.Goals as goal

pub returns : goal.returns
returns c =
    let ds = map description_of c.args.descriptions.now in
    let matches = c.args.table.now in
    let ssa = c.args.ssa.now in
    record {
      cost = whatever (c.in_ok-packed.packed + c.in_ok-lines.lines) (λ (deps : List (ℕ × ℕ)). plan_cost (packing ds matches ssa deps) c.args.plan.now) c.plus-2.result
          (λ (deps : List (ℕ × ℕ)).
          all_parts ds matches ssa deps c.as_slice-packs.result.now
          c.in_ok-price.price c.in_ok-recipes.recipes.cost c.in_ok-lines.lines c.in_ok-packed.packed
          c.as_slice-operands.result.now c.as_slice.result.now
          c.in_ok-price.ensures (c.as_slice-operands.ensures.value ∙ c.in_ok-operands.ensures) c.in_ok-recipes.ensures.cost
          (c.as_slice.ensures.value ∙ c.in_ok-recipes.ensures.values) c.in_ok-lines.ensures c.in_ok-packed.ensures
          ∙ ap (plan_cost (packing ds matches ssa deps)) c.as_slice-packs.ensures)
          c.plus-2.ensures;
    }
