use Rattle.std.proofs.Common.{◌∙◌, ◌+◌, ◌++◌, ap, arith, length, map, sym}
use Rattle.vg_cost.proofs.Had.{all_more, cost_had, none_more}
use Rattle.vg_shapes.specs.Description.{description_of}
use Rattle.vg_cost.proofs.recipes.push_recipe.Goals as goal
use Rattle.vg_cost.proofs.recipes.push_recipe.Goals.{then-costs-eq0+in_ok-extend_from_slice, else-costs-eq0}

pub returns-clause-cost : goal.returns-clause-cost
returns-clause-cost c =
    c.least_of.ensures
    ∙ cost_had (map description_of c.args.descriptions.now) c.args.ssa.now c.args.packs.now c.args.operand.now
    (sym c.is_reused.ensures ∙ c.if-is_reused.false) (sym c.is_constant.ensures ∙ c.if-is_constant.false) _ _
    (c.in_ok-inserts.ensures
    ∙ ap (λ l. 1 + length l) (c.as_slice-wanted.ensures.value ∙ c.in_ok-wanted.ensures))
    (c.as_slice-costs.ensures.value ∙ c.in_ok-costs.ensures)

pub returns-clause-values : goal.returns-clause-values
returns-clause-values c =
    let ds = map description_of c.args.descriptions.now in
    let free = sym c.is_reused.ensures ∙ c.if-is_reused.false in
    let some = sym c.is_constant.ensures ∙ c.if-is_constant.false in
    let had = c.as_slice-costs.ensures.value ∙ c.in_ok-costs.ensures in
    elim c.if-costs-eq0.branch [
      | then-costs-eq0+in_ok-extend_from_slice w ↦
          ap (λ v. v.items) w.values-is
          ∙ w.in_ok-extend_from_slice.ensures.items
          ∙ ap (λ l. c.args.values.now.items ++ l)
          (c.as_slice-wanted.ensures.value ∙ c.in_ok-wanted.ensures
          ∙ all_more ds c.args.ssa.now c.args.packs.now c.args.operand.now free some c.as_slice-costs.result.now had (omega arith))
      | else-costs-eq0 w ↦
          ap (λ v. v.items) w.values-is
          ∙ none_more ds c.args.ssa.now c.args.packs.now c.args.operand.now free some c.as_slice-costs.result.now c.args.values.now.items had (omega arith)
    ]
