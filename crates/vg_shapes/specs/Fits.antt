-- When the term of a lane fits a value, and what its leaves are then bound to.
use Rattle.std.specs.Prelude.{◌≡◌, ◌<◌, ◌≤◌, ℕ, ◌&&◌, ◌||◌, Bool, true, false, List, [], ◌∷◌, Option, Some, None, nat_eq, if◌then◌else◌}
use Rattle.std.specs.List.{AllByRecursion, IsDistinct}
use Rattle.vg_base.specs.Trap.{◌>>=◌}
use Rattle.vg_terms.specs.declared.term.LeafKey.{LeafKey}
use Rattle.vg_terms.specs.declared.value.Env.{Env}
use Rattle.vg_terms.specs.Chain.{makes_chains}
use Rattle.vg_terms.specs.Root.{is_constant}
use Rattle.vg_terms.specs.Rule.{Keeps}
use Rattle.vg_terms.specs.Term.{Tree, leaf, constant, one, two, sel, width_of, WellFormed}
use Rattle.vg_terms.specs.Value.{same_key, value}
use Rattle.vg_shapes.specs.declared.match_table.Bound.{Bound}
use Rattle.vg_shapes.specs.declared.ssa.Ssa.{Ssa}
use Rattle.vg_shapes.specs.declared.wanted.Wanted.{Wanted}
use Rattle.vg_shapes.specs.declared.wanted.Wanted.TheVariants.{Value, Constant, Nothing}
use Rattle.vg_shapes.specs.Sound.{cut_at, name_at, term_at}

-- a term with each leaf replaced, by the width and the key of the leaf
abbrev pub replaced : (ℕ → LeafKey → Tree) → Tree → Tree
replaced by (leaf w k) = by w k
replaced by (constant w n) = constant w n
replaced by (one op w k x) = one op w k (replaced by x)
replaced by (two op w x y) = two op w (replaced by x) (replaced by y)
replaced by (sel w c x y) = sel w (replaced by c) (replaced by x) (replaced by y)

-- this holds of each leaf of a term
abbrev pub EachLeaf : (ℕ → LeafKey → Type 0) → Tree → Type 0
EachLeaf P (leaf w k) = P w k
EachLeaf P (constant w n) = Unit {0}
EachLeaf P (one op w k x) = EachLeaf P x
EachLeaf P (two op w x y) = EachLeaf P x × EachLeaf P y
EachLeaf P (sel w c x y) = EachLeaf P c × EachLeaf P x × EachLeaf P y

-- a term has this leaf
abbrev pub has_leaf : ℕ → LeafKey → Tree → Bool
has_leaf w k (leaf u l) = nat_eq w u && same_key k l
has_leaf w k (constant u n) = false
has_leaf w k (one op u n x) = has_leaf w k x
has_leaf w k (two op u x y) = has_leaf w k x || has_leaf w k y
has_leaf w k (sel u c x y) = has_leaf w k c || (has_leaf w k x || has_leaf w k y)

-- it is no leaf and no constant
abbrev pub is_compound : Tree → Bool
is_compound (leaf w k) = false
is_compound (constant w n) = false
is_compound _ = true

-- what a leaf is bound to
abbrev pub wanted_for : List Bound → ℕ → LeafKey → Wanted
wanted_for [] w k = Nothing
wanted_for (b ∷ bs) w k =
    if nat_eq w b.width && same_key k b.key then b.wanted else wanted_for bs w k

abbrev pub same_leaf : Bound → Bound → Bool
same_leaf a b = nat_eq a.width b.width && same_key a.key b.key

-- By the names of values, what stands for a term below a value: the constant that it is, else the
-- least value that has it for its name.
abbrev pub StandsFor : (ℕ → Option Tree) → ℕ → Tree → Wanted → Type 0
StandsFor names v t (Constant w n) = t ≡ constant w n
StandsFor names v t (Value u) =
    (is_constant t ≡ false)
    × (u < v)
    × (names u ≡ Some t)
    × ((x : ℕ) → names x ≡ Some t → u ≤ x)
StandsFor names v t Nothing = ⊥

-- By terms and names of values: the term of a lane, each leaf replaced by a term of its width, is the
-- term of a value. Each leaf is bound to what stands for the term that replaces it, and nothing else
-- is bound.
pub record FitsBy (terms names : ℕ → Option Tree) (t : Tree) (v : ℕ) (bound : List Bound) : Type 0 where
  pub by : ℕ → LeafKey → Tree
  pub compound : is_compound t ≡ true
  pub widths : EachLeaf (λ w k. width_of (by w k) ≡ w) t
  pub whole : terms v ≡ Some (replaced by t)
  pub leaves : EachLeaf (λ w k. StandsFor names v (by w k) (wanted_for bound w k)) t
  pub alone : AllByRecursion (λ b. has_leaf b.width b.key t ≡ true) bound
  pub once : IsDistinct same_leaf bound

-- the whole term of a value, whose parts are the whole terms of values
abbrev pub Fits : Ssa → Tree → ℕ → List Bound → Type 0
Fits ssa t v bound = FitsBy (term_at ssa) (term_at ssa) t v bound

-- the cut term of a value, over the names of values
abbrev pub FitsCut : Ssa → Tree → ℕ → List Bound → Type 0
FitsCut ssa t v bound = FitsBy (cut_at ssa) (name_at ssa) t v bound

-- a term with the operands at its root exchanged, where their order does not matter and the second is
-- a constant
abbrev pub turned : Tree → Option Tree
turned (leaf w k) = None
turned (constant w n) = None
turned (one op w k x) = None
turned (two op w x y) = if makes_chains op && is_constant y then Some (two op w y x) else None
turned (sel w c x y) = None

-- the turned cut term of a value
abbrev pub turned_at : Ssa → ℕ → Option Tree
turned_at ssa v = cut_at ssa v >>= turned

abbrev pub FitsTurned : Ssa → Tree → ℕ → List Bound → Type 0
FitsTurned ssa t v bound = FitsBy (turned_at ssa) (name_at ssa) t v bound

-- the term of a lane does not fit a value in this way, whatever its leaves are bound to
abbrev pub Misfits : (Tree → ℕ → List Bound → Type 0) → Tree → ℕ → Type 0
Misfits fits t v = (bound : List Bound) → fits t v bound → ⊥

-- the first way in which the term of a lane fits a value: whole, else cut, else turned
pub data FitsWide (ssa : Ssa) (t : Tree) (v : ℕ) (bound : List Bound) : Type 0 where
  fits_whole : Fits ssa t v bound → FitsWide ssa t v bound
  fits_cut : Misfits (Fits ssa) t v → FitsCut ssa t v bound → FitsWide ssa t v bound
  fits_turned : Misfits (Fits ssa) t v → Misfits (FitsCut ssa) t v → FitsTurned ssa t v bound
      → FitsWide ssa t v bound

-- a term whose leaves are replaced by terms of their widths and numbers has the number of the term
abbrev pub ReplacedKeepNumbers : Type 0
ReplacedKeepNumbers =
    (by : ℕ → LeafKey → Tree) (run read : Env) (t : Tree) →
    EachLeaf
    (λ w k. (width_of (by w k) ≡ w) × (value run (by w k) ≡ value read (leaf w k))) t →
    value run (replaced by t) ≡ value read t

-- a term that can be turned keeps its width and its number
abbrev pub TurnedKeepNumbers : Type 0
TurnedKeepNumbers = (t u : Tree) → WellFormed t → turned t ≡ Some u → Keeps t u
