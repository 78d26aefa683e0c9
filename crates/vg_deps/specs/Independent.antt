-- Units of which neither depends on the other.
use Rattle.std.specs.Prelude.{◌≡◌, ◌≢◌, ℕ, ◌||◌, not, Bool, true, List, Some}
use Rattle.vg_shapes.specs.declared.access.Access.{Access}
use Rattle.vg_shapes.specs.declared.ssa.Ssa.{Ssa}
use Rattle.vg_shapes.specs.DepList.{is_listed}
use Rattle.vg_shapes.specs.Depends.{depends_on}
use Rattle.vg_shapes.specs.Layout.{access_at, AreApart, Respects}

-- neither unit depends on the other by a list
abbrev pub are_independent : List (ℕ × ℕ) → ℕ → ℕ → Bool
are_independent deps a b = not (is_listed deps a b || is_listed deps b a)

-- a list has exactly the pairs of a unit and one on which it depends
abbrev pub ListsDependences : List (ℕ × ℕ) → Ssa → Type 0
ListsDependences deps ssa = (later earlier : ℕ) → is_listed deps later earlier ≡ depends_on ssa later earlier

-- two accesses of which neither depends on the other, one of them a store, are apart in each layout
-- that respects noalias
abbrev pub KeepApart : List (ℕ × ℕ) → ℕ → ℕ → Bool → Type 0
KeepApart deps a b independent =
    (ssa : Ssa) (places : List ℕ) (x y : Access) →
    ListsDependences deps ssa → Respects ssa places → a ≢ b →
    access_at ssa a ≡ Some x → access_at ssa b ≡ Some y → (x.writes || y.writes) ≡ true →
    independent ≡ true → AreApart places x y
