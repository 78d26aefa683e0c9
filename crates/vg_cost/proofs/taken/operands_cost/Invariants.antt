use Rattle.std.proofs.Common.{◌≡◌, take}
use Rattle.std.specs.Prelude.{flat_map, sum_by}
use Rattle.vg_cost.specs.LongerPlan.{all_packs, described}
use Rattle.vg_cost.specs.Marks.{Marked}
use Rattle.vg_cost.specs.Taken.{inserted_for, taken_for}
use Rattle.vg_cost.proofs.taken.operands_cost.Given as goal

abbrev pub invariant-operands : goal.invariant-operands
invariant-operands l =
    let know = taken_for (described l.plan) l.plan.ssa.now (all_packs l.plan) in
    (l.sum ≡ sum_by (λ o. (know o).recipe.lines) (take l.operand-index l.operands))
    × Marked (flat_map (λ o. inserted_for (know o)) (take l.operand-index l.operands)) l.fn.needed l.needed
