-- The first of the least is no dearer than the first.
use Rattle.std.proofs.Common.{◌≡◌, ℕ, ◌≤◌, Bool, true, false, List, ◌∷◌, refl, subst, inl}
use Rattle.std.specs.Prelude.{if◌then◌else◌, nat_lt}
use Rattle.vg_plans.specs.Levels.{first_least}
use Rattle.vg_plans.proofs.Lists.{least-below}

if-same : {X : Type 0} (b : Bool) (x : X) → (if b then x else x) ≡ x
if-same true x = refl
if-same false x = refl

pub least-first : {X : Type 0} (key : X → ℕ) (best : X) (xs : List X)
    → key (first_least key best xs) ≤ key best
least-first key best xs =
    subst (λ y. key (first_least key y xs) ≤ key best) (if-same (nat_lt (key best) (key best)) best)
    (least-below key best best (best ∷ xs) (inl refl))
