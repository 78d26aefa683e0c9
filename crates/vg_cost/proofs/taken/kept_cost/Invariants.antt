use Rattle.std.proofs.Common.{◌≡◌, take}
use Rattle.std.specs.Prelude.{flat_map, sum_by}
use Rattle.vg_cost.specs.LongerPlan.{all_packs, described}
use Rattle.vg_cost.specs.Moves.{Moves}
use Rattle.vg_cost.specs.Taken.{inserted_for, kept_for}
use Rattle.vg_cost.proofs.taken.kept_cost.Given as goal

abbrev pub invariant-taken : goal.invariant-taken
invariant-taken l =
    let kept = kept_for (described l.plan) l.plan.ssa.now (all_packs l.plan) in
    (l.sum ≡ sum_by (λ t. (kept t).recipe.lines) (take l.one-index l.taken))
    × Moves (flat_map inserted_for (take l.one-index l.taken)) (flat_map (λ t. inserted_for (kept t)) (take l.one-index l.taken))
    l.fn.counts l.counts l.fn.changed l.changed
