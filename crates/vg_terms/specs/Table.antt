-- Tables of rows that rewrite a term: the first row that applies, and what a sound row promises.
use Rattle.std.specs.Prelude.{◌≡◌, List, [], ◌∷◌, Option, Some, None}
use Rattle.std.specs.Option.{option_or}
use Rattle.vg_terms.specs.Measure.{Falls}
use Rattle.vg_terms.specs.Rule.{Keeps}
use Rattle.vg_terms.specs.Term.{Tree, WellFormed}

-- the row applies to the term and gives the result
abbrev pub Applies : (Tree → Option Tree) → Tree → Tree → Type 0
Applies row t r = row t ≡ Some r

-- the first of the rows that applies
abbrev pub first : List (Tree → Option Tree) → Tree → Option Tree
first [] t = None
first (row ∷ rows) t = option_or (row t) (first rows t)

pub record Promises (old new : Tree) : Type 0 where
  pub keeps : Keeps old new
  pub falls : Falls old new

-- what a row makes of a well-formed term keeps what it has to, and falls
abbrev pub IsSound : (Tree → Option Tree) → Type 0
IsSound row = (old new : Tree) → WellFormed old → Applies row old new → Promises old new

abbrev pub AllSound : List (Tree → Option Tree) → Type 0
AllSound [] = Unit {0}
AllSound (row ∷ rows) = IsSound row × AllSound rows
