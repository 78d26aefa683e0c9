-- What becomes of the coefficients of a sum.
use Rattle.std.specs.Prelude.{ℕ, ℤ, pos}
use Rattle.vg_base.specs.Bits.{signed_at}
use Rattle.vg_base.specs.Number.{floor_shift, residue}
use Rattle.vg_sums.specs.declared.change.Change.{Change}
use Rattle.vg_sums.specs.declared.change.Change.TheVariants.{Quotient, Remainder, Balanced}

abbrev pub coefficient : Change → ℤ → ℤ
coefficient (Quotient k) = λ z. floor_shift z k
coefficient (Remainder k) = λ z. pos (residue k z)
coefficient (Balanced w) = λ z. signed_at w (residue w z)

-- the places, or the width
abbrev pub places_of : Change → ℕ
places_of (Quotient k) = k
places_of (Remainder k) = k
places_of (Balanced w) = w
