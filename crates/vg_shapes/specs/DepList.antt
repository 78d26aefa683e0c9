-- Lists of dependences: pairs of a unit and an earlier one on which it depends.
use Rattle.std.specs.Prelude.{ℕ, ◌+◌, ◌&&◌, Bool, List, [], ◌∷◌, ◌++◌, map, filter, nat_eq}
use Rattle.std.specs.List.{list_any}

-- the pairs of rows, one row for each unit from this number on
abbrev pub pairs_from : ℕ → List (List ℕ) → List (ℕ × ℕ)
pairs_from v [] = []
pairs_from v (row ∷ rows) = map (λ x. (v, x)) row ++ pairs_from (v + 1) rows

-- the units on which a unit depends by a list
abbrev pub row_of : List (ℕ × ℕ) → ℕ → List ℕ
row_of deps v = map (λ p. p.1) (filter (λ p. nat_eq p.0 v) deps)

-- a pair is in a list
abbrev pub is_listed : List (ℕ × ℕ) → ℕ → ℕ → Bool
is_listed deps later earlier = list_any (nat_eq earlier) (row_of deps later)
