-- The numbers of constant expressions, which are found without what is known of them.
use Rattle.std.specs.Prelude.{◌≡◌, ℕ, ℤ, Bool, List, Option, None, Ok}
use Rattle.vg_pseudo.specs.declared.spot.Spot.{Spot}
use Rattle.vg_pseudo.specs.declared.operators.BinaryOp.{BinaryOp}
use Rattle.vg_pseudo.specs.Resolved.{Expr}
use Rattle.vg_interval.specs.Interval.{fit}
use Rattle.vg_interval.specs.Found.{Found, known, fixed}
use Rattle.vg_interval.specs.Judge.{Sight, KnownNumber, constant, Count, binary_at, element_at, judge, settled, spot_of}
use Rattle.vg_range.specs.Estimates.{estimate_of, kept_found}

-- the small number of what is known, if it is a constant
abbrev pub number_in : Found → Option ℤ
number_in (known z w) = fit z
number_in f = None

-- what is known of an expression is this small constant
abbrev pub IsKnown : ℤ → Found → Type 0
IsKnown z f = (s : Spot) → kept_found s f ≡ Ok (constant z)

-- an expression is this small constant, and leaves the counts as they are
abbrev pub IsNumber : Sight → List KnownNumber → Expr → ℤ → Type 0
IsNumber s ks e z = (c : Count) → estimate_of (spot_of e) (judge s ks e c) ≡ Ok (constant z, c)

-- an operator makes this small constant of two constants
abbrev pub Makes : BinaryOp → ℤ → ℤ → ℤ → Type 0
Makes op y z x =
    (s t : Spot) → (c : Count) → estimate_of s (binary_at s op t (fixed y) (fixed z) c) ≡ Ok (constant x, c)

-- an element by the number of its index is this small constant
abbrev pub IsElement : Sight → Spot → Bool → ℕ → ℕ → ℤ → ℤ → Type 0
IsElement s p g r size k z =
    (c : Count) → estimate_of p (element_at s p.inner g r size (settled k) c) ≡ Ok (constant z, c)
