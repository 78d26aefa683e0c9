-- Laws on matches.
use Rattle.std.specs.Prelude.{◌≡◌, ◌<◌, ℕ, List, Option, Some, length, slice_index, take, [], get_or}
use Rattle.std.specs.List.{AllByRecursion}
use Rattle.vg_base.specs.Bits.{num}
use Rattle.vg_bits.specs.BitList.{IsBytes}
use Rattle.vg_bits.specs.Range.{range}
use Rattle.vg_terms.specs.declared.term.LeafKey.{LeafKey}
use Rattle.vg_terms.specs.Term.{Tree}
use Rattle.vg_terms.specs.Value.{value}
use Rattle.vg_shapes.specs.declared.match_table.Bound.{Bound}
use Rattle.vg_shapes.specs.declared.match_table.Match.{Match}
use Rattle.vg_shapes.specs.declared.ssa.Ssa.{Ssa}
use Rattle.vg_shapes.specs.Bindings.{BindsInOrder}
use Rattle.vg_shapes.specs.Description.{Description}
use Rattle.vg_shapes.specs.Fits.{EachLeaf, FitsBy, FitsWide, turned_at, wanted_for}
use Rattle.vg_shapes.specs.Matches.{AreMatches, lane_at}
use Rattle.vg_shapes.specs.MatchTable.{IsTable}
use Rattle.vg_shapes.specs.Pack.{match_at}
use Rattle.vg_shapes.specs.Registers.{AllBits, bits_key, env_of}
use Rattle.vg_shapes.specs.RunUnits.{Reached, number_of, run_units, start_of}
use Rattle.vg_shapes.specs.Sound.{AreArguments, cut_at, cuts_of, environment, IsEarlier, IsSound, name_at, term_at, terms_of}
use Rattle.vg_shapes.specs.Units.{integers}

-- what is found of a lane and a value is what its leaves are bound to by the first way in which it
-- fits the value
abbrev pub FoundFit : Type 0
FoundFit =
    (descriptions : List Description) (ssa : Ssa) (matches : List Match) →
    AreMatches descriptions ssa matches → (d lane v : ℕ) (m : Match) →
    match_at matches d lane v ≡ Some m →
    (t : Tree) × (lane_at descriptions d lane ≡ Some t) × FitsWide ssa t v m.bound

-- two lists of bindings bind each leaf of a term to the same
abbrev pub BindTheSame : Tree → List Bound → List Bound → Type 0
BindTheSame t first second =
    EachLeaf (λ w k. wanted_for first w k ≡ wanted_for second w k) t

-- Two bindings by which a term fits a value bind each leaf to the same: in one way, whatever the terms
-- and the names of values are, and by the first of the ways.
pub record OneBinding : Type 0 where
  pub in_one_way : (terms names : ℕ → Option Tree) (t : Tree) (v : ℕ) (first second : List Bound) →
      FitsBy terms names t v first → FitsBy terms names t v second → BindTheSame t first second
  pub by_the_first : (ssa : Ssa) (t : Tree) (v : ℕ) (first second : List Bound) →
      FitsWide ssa t v first → FitsWide ssa t v second → BindTheSame t first second

-- where a term fits a value, its leaves are bound to constants and to values before it
abbrev pub BoundEarlier : Type 0
BoundEarlier =
    (ssa : Ssa) (t : Tree) (v : ℕ) (bound : List Bound) → FitsWide ssa t v bound →
    EachLeaf (λ w k. IsEarlier v (wanted_for bound w k)) t

-- what is given for values has these numbers of the values
abbrev pub Have : Ssa → List ℕ → (ℕ → Option Tree) → Type 0
Have ssa numbers given =
    (v : ℕ) (t : Tree) → v < length numbers → given v ≡ Some t →
    value (environment ssa numbers) t ≡ slice_index numbers v

-- the terms of values, their cut terms, also turned, and their names have these numbers
pub record TermsHave (ssa : Ssa) (numbers : List ℕ) : Type 0 where
  pub terms : Have ssa numbers (term_at ssa)
  pub cuts : Have ssa numbers (cut_at ssa)
  pub turned : Have ssa numbers (turned_at ssa)
  pub names : Have ssa numbers (name_at ssa)

-- where a run reaches values of a sound kernel, their terms have their numbers
abbrev pub ReachedHave : Type 0
ReachedHave =
    (ssa : Ssa) (places memory args : List ℕ) (k : ℕ) (r : Reached) → IsSound ssa →
    IsBytes memory → AreArguments (integers ssa) args →
    run_units places (take k ssa.units) (start_of memory args) ≡ Some r →
    TermsHave ssa r.numbers

-- a leaf is bits of a register that have the number of what it is bound to
abbrev pub HasNumber : List (List ℕ) → List ℕ → List Bound → ℕ → LeafKey → Type 0
HasNumber regs numbers bound w k =
    (parameter : ℕ) × (low : ℕ) × (k ≡ bits_key parameter low)
    × (num (range low w (get_or regs parameter []))
    ≡ number_of (slice_index numbers) (wanted_for bound w k))

-- A term that fits a value has the number of the value in registers whose bits have the numbers of
-- what its leaves are bound to.
abbrev pub LanesHaveNumbers : Type 0
LanesHaveNumbers =
    (ssa : Ssa) (numbers : List ℕ) (t : Tree) (v : ℕ) (bound : List Bound)
    (regs : List (List ℕ)) → TermsHave ssa numbers → v < length numbers →
    FitsWide ssa t v bound →
    AllBits regs → EachLeaf (HasNumber regs numbers bound) t →
    value (env_of regs) t ≡ slice_index numbers v

-- the values of two kernels have the same parameters, units, terms and cut terms
pub record HaveSameValues (a b : Ssa) : Type 0 where
  pub params : a.params ≡ b.params
  pub units : a.units ≡ b.units
  pub terms : terms_of a ≡ terms_of b
  pub cuts : cuts_of a ≡ cuts_of b

-- the table of all matches of descriptions with values, in order, as are the leaves that each binds
pub record IsOrderedTable (descriptions : List Description) (ssa : Ssa) (matches : List Match) : Type 0 where
  pub matched : AreMatches descriptions ssa matches
  pub ordered : IsTable matches
  pub bindings : AllByRecursion (BindsInOrder descriptions) matches

-- there is one such table of the same values
abbrev pub OneTable : Type 0
OneTable =
    (descriptions : List Description) (a b : Ssa) (first second : List Match) →
    HaveSameValues a b → IsOrderedTable descriptions a first →
    IsOrderedTable descriptions b second → first ≡ second
