-- The cheapest of shuffles, one after the other.
use Rattle.std.specs.Prelude.{ℕ, List, [], ◌∷◌, Option, Some, None, nat_lt, if◌then◌else◌}
use Rattle.vg_plans.specs.Levels.{first_least}
use Rattle.vg_shapes.specs.Description.{Description}
use Rattle.vg_gather.specs.Recipes.{description_in}

abbrev pub cost_in : List Description → ℕ → ℕ
cost_in ds n = (description_in ds n).cost

-- the cheaper of two by their numbers, the first where both cost the same
abbrev pub cheaper : List Description → Option ℕ → ℕ → ℕ
cheaper ds None n = n
cheaper ds (Some best) n = if nat_lt (cost_in ds n) (cost_in ds best) then n else best

-- the first of those of least cost, one having been found before them or none
abbrev pub cheapest : List Description → Option ℕ → List ℕ → Option ℕ
cheapest ds None [] = None
cheapest ds None (n ∷ ns) = Some (first_least (cost_in ds) n ns)
cheapest ds (Some best) ns = Some (first_least (cost_in ds) best ns)
