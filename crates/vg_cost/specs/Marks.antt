-- Numbers that are marked.
use Rattle.std.specs.Prelude.{◌≡◌, ℕ, ◌<◌, ◌||◌, Bool, false, List, length, get_or}
use Rattle.vg_plans.specs.World.{is_in}

-- of the numbers below their count the new marks have those of the old ones and those of the list
pub record Marked (list : List ℕ) (old new : List Bool) : Type 0 where
  pub long : length new ≡ length old
  pub each : (v : ℕ) → v < length old → get_or new v false ≡ is_in v list || get_or old v false

-- so many marks, which tell the members of a list
pub record Has (count : ℕ) (list : List ℕ) (marks : List Bool) : Type 0 where
  pub long : length marks ≡ count
  pub each : (v : ℕ) → v < count → get_or marks v false ≡ is_in v list
