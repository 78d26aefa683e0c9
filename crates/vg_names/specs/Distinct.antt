-- Names in their order, each once.
use Rattle.std.specs.Prelude.{◌≡◌, ℕ, ◌<◌, List, [], ◌∷◌, ◌++◌, length, get_or, Option, Some, if◌then◌else◌}
use Rattle.std.specs.Str.{bytes_eq}
use Rattle.vg_pseudo.specs.Names.{first_place, has_name}

-- and this name, where it is not among them
abbrev pub with_name : List (List ℕ) → List ℕ → List (List ℕ)
with_name before n = if has_name before n then before else before ++ n ∷ []

-- the place of a name among all
abbrev pub place_of : List (List ℕ) → List ℕ → Option ℕ
place_of names n = first_place (λ m. bytes_eq m n) names

-- each is found where it stands
abbrev pub AreDistinct : List (List ℕ) → Type 0
AreDistinct names = (i : ℕ) → i < length names → place_of names (get_or names i []) ≡ Some i
