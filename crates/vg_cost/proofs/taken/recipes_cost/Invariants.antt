use Rattle.std.proofs.Common.{◌≡◌, [], take}
use Rattle.std.specs.Prelude.{flat_map, sum_by}
use Rattle.vg_cost.specs.Moves.{Moves}
use Rattle.vg_cost.specs.Taken.{inserted_for}
use Rattle.vg_cost.proofs.taken.recipes_cost.Given as goal

abbrev pub invariant-taken : goal.invariant-taken
invariant-taken l =
    (l.sum ≡ sum_by (λ t. t.recipe.lines) (take l.one-index l.taken))
    × Moves [] (flat_map inserted_for (take l.one-index l.taken)) l.fn.counts l.counts l.fn.changed l.changed
