-- Steps in a sequence, each by its number, and when they may be sorted.
use Rattle.std.specs.Prelude.{◌≡◌, ℕ, ◌<◌, List, [], ◌∷◌, Option, Some, None, nat_le, if◌then◌else◌}
use Rattle.std.specs.List.{AllByRecursion}
use Rattle.vg_base.specs.Trap.{◌>>=◌}

-- the steps with these numbers, one after the other, up to a trap
unfoldable pub run_steps : {S : Type 0} → (ℕ → S → Option S) → List ℕ → S → Option S
run_steps step [] s = Some s
run_steps step (u ∷ us) s = step u s >>= run_steps step us

-- two steps do the same whichever comes first
abbrev pub Commute : {S : Type 0} → (ℕ → S → Option S) → ℕ → ℕ → Type 0
Commute {S} step x y = (s : S) → (step x s >>= step y) ≡ (step y s >>= step x)

-- a number put into a rising list, and the numbers of a list in rising order
abbrev pub put_in : ℕ → List ℕ → List ℕ
put_in y [] = y ∷ []
put_in y (x ∷ xs) = if nat_le y x then y ∷ (x ∷ xs) else x ∷ put_in y xs

abbrev pub in_order : List ℕ → List ℕ
in_order [] = []
in_order (y ∷ ys) = put_in y (in_order ys)

-- each step commutes with each one of a lesser number after it
abbrev pub MayBeSorted : {S : Type 0} → (ℕ → S → Option S) → List ℕ → Type 0
MayBeSorted step [] = Unit {0}
MayBeSorted step (y ∷ ys) =
    AllByRecursion (λ x. x < y → Commute step y x) ys × MayBeSorted step ys
