-- What a read of a shelf answers, and what it does to the shelf's counts.
use Rattle.std.specs.Prelude.{◌≡◌, ℕ, ◌+◌, ◌-◌, ◌^◌, ◌<◌, List, take, Option, Some, None, Result, Err, IfSome, IsSomeAnd}
use Rattle.std.specs.Ordering.{nat_cmp}
use Rattle.std.specs.Cmp.Lexicographic.{slice_cmp}
use Rattle.std.specs.FinMap.{FinMap, get}
use Rattle.vg_outside.specs.declared.shelf.ShelfFault.{ShelfFault}
use Rattle.vg_outside.specs.declared.shelf.ShelfFault.TheVariants.{Absent, Failed}
use Rattle.vg_outside.specs.Count.{Rose}

-- files: the bytes of each name
abbrev pub Held : Type 0
Held = FinMap (slice_cmp nat_cmp) (List ℕ)

-- where told: the shelf has the name, and these are the first bytes of its file, at most one more
-- than the limit
abbrev pub IsFrontOf : Option Held → List ℕ → ℕ → List ℕ → Type 0
IsFrontOf told name limit bytes =
    IfSome told (λ held. IsSomeAnd (get held name) (λ file. bytes ≡ take (limit + 1) file))

-- where told: the shelf has no file of the name
abbrev pub IsNotHeld : Option Held → List ℕ → Type 0
IsNotHeld told name = IfSome told (λ held. get held name ≡ None)

-- where told and below its last value, the number of reads is one more
abbrev pub CountsRead : Option ℕ → Option ℕ → Type 0
CountsRead (Some before) now = before < 2 ^ 64 - 1 → now ≡ Some (before + 1)
CountsRead None now = Unit {0}

-- only Absent changes the count of absences, and never without a rise
abbrev pub CountsAbsence : {T : Type 0} → ℕ → ℕ → Result T ShelfFault → Type 0
CountsAbsence before now (Err Absent) = Rose before now
CountsAbsence before now _ = now ≡ before

-- only Failed changes the count of faults, and never without a rise
abbrev pub CountsFault : {T : Type 0} → ℕ → ℕ → Result T ShelfFault → Type 0
CountsFault before now (Err Failed) = Rose before now
CountsFault before now _ = now ≡ before
