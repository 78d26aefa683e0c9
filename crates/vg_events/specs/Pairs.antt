-- The events of one side as numbers of the events of the other.
use Rattle.std.specs.Prelude.{◌≡◌, ℕ, Bool, List, [], ◌∷◌, ◌++◌, length, Option, Some, None}
use Rattle.vg_base.specs.declared.address.Address.{Address}
use Rattle.vg_shapes.specs.declared.access.Access.{Access}
use Rattle.vg_shapes.specs.Order.{count_of, numbers_from}
use Rattle.vg_events.specs.Events.{Label, label_at, next}

-- lists one after the other
abbrev pub joined : List (List ℕ) → List ℕ
joined [] = []
joined (l ∷ ls) = l ++ joined ls

-- the events of these numbers are the bytes from an address on
abbrev pub Labelled : List Label → Bool → Address → List ℕ → Type 0
Labelled ls w a [] = Unit {0}
Labelled ls w a (e ∷ es) =
    (label_at ls e ≡ record { writes = w; address = a }) × Labelled ls w (next a) es

-- they are the bytes of what a unit or a line accesses
abbrev pub IsPaired : List Label → Option Access → List ℕ → Type 0
IsPaired ls None es = es ≡ []
IsPaired ls (Some x) es = (length es ≡ x.size) × Labelled ls x.writes x.address es

-- for each unit or line the numbers of its events
abbrev pub ArePaired : List Label → List (Option Access) → List (List ℕ) → Type 0
ArePaired ls [] [] = Unit {0}
ArePaired ls [] (es ∷ ess) = ⊥
ArePaired ls (x ∷ xs) [] = ⊥
ArePaired ls (x ∷ xs) (es ∷ ess) = IsPaired ls x es × ArePaired ls xs ess

-- each event stands once
abbrev pub AreEvents : List Label → List ℕ → Type 0
AreEvents ls es = (e : ℕ) → count_of e es ≡ count_of e (numbers_from 0 (length ls))
