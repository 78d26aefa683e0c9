-- The matches of all lanes with all values that they fit.
use Rattle.std.specs.Prelude.{◌≡◌, ◌↔◌, ℕ, List, [], Option, Some, IsSome, slice_get}
use Rattle.std.specs.List.{AllByRecursion}
use Rattle.vg_base.specs.Trap.{◌>>=◌}
use Rattle.vg_terms.specs.Term.{Tree}
use Rattle.vg_shapes.specs.declared.match_table.Bound.{Bound}
use Rattle.vg_shapes.specs.declared.match_table.Match.{Match}
use Rattle.vg_shapes.specs.declared.ssa.Ssa.{Ssa}
use Rattle.vg_shapes.specs.Description.{Description}
use Rattle.vg_shapes.specs.Fits.{Fits, FitsCut, FitsTurned, FitsWide}
use Rattle.vg_shapes.specs.Pack.{match_at}

-- the term of a lane of a description, both by number
abbrev pub lane_at : List Description → ℕ → ℕ → Option Tree
lane_at descriptions d lane = slice_get descriptions d >>= λ x. slice_get x.lanes lane

-- a match is of a lane that is there, which fits the value in this way with what is bound
pub record IsMatchBy
    (way : Tree → ℕ → List Bound → Type 0) (descriptions : List Description) (m : Match)
    : Type 0 where
  pub term : Tree
  pub lane : lane_at descriptions m.description m.lane ≡ Some term
  pub fits : way term m.value m.bound

-- the same of the first of the ways whole, cut, turned
abbrev pub IsMatch : List Description → Ssa → Match → Type 0
IsMatch descriptions ssa m = IsMatchBy (FitsWide ssa) descriptions m

-- where the term of a lane fits a value in this way, the two have a match
abbrev pub AllFound : (Tree → ℕ → List Bound → Type 0) → List Description → List Match → Type 0
AllFound way descriptions matches =
    (d lane v : ℕ) (t : Tree) (bound : List Bound) →
    lane_at descriptions d lane ≡ Some t → way t v bound →
    IsSome (match_at matches d lane v)

-- The wide table: each is a match, and where the term of a lane fits a value whole, cut or turned,
-- the two have a match.
pub record AreMatches (descriptions : List Description) (ssa : Ssa) (matches : List Match) : Type 0 where
  pub right : AllByRecursion (IsMatch descriptions ssa) matches
  pub whole : AllFound (Fits ssa) descriptions matches
  pub cut : AllFound (FitsCut ssa) descriptions matches
  pub turned : AllFound (FitsTurned ssa) descriptions matches

-- the table of whole terms alone
pub record AreWholeMatches (descriptions : List Description) (ssa : Ssa) (matches : List Match) : Type 0 where
  pub right : AllByRecursion (IsMatchBy (Fits ssa) descriptions) matches
  pub whole : AllFound (Fits ssa) descriptions matches

-- where there are no cut terms, the wide table is that of whole terms
abbrev pub WideIsWhole : Type 0
WideIsWhole =
    (descriptions : List Description) (ssa : Ssa) (matches : List Match) → ssa.cuts ≡ [] →
    AreMatches descriptions ssa matches ↔ AreWholeMatches descriptions ssa matches
