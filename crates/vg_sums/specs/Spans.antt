-- Spans: whole numbers between which the value of a sum lies, in every environment. There is none where an
-- end does not fit 128 signed bits.
use Rattle.std.specs.Prelude.{◌≤ℤ◌, ℕ, ◌-◌, ◌^◌, ℤ, pos, ◌+ℤ◌, ◌*ℤ◌, int_lt, nat_le, Option, Some, None, if◌then◌else◌}
use Rattle.std.specs.Ordering.{int_eq}
use Rattle.vg_base.specs.Trap.{◌>>=◌}
use Rattle.vg_base.specs.Number.{floor_shift}
use Rattle.vg_sums.specs.declared.kind.Kind.{Kind}
use Rattle.vg_sums.specs.declared.kind.Kind.TheVariants.{Leaf, Floor, Positive, Negative, Zero, Bitwise}
use Rattle.vg_sums.specs.declared.span.Span.{Span}
use Rattle.vg_sums.specs.Arithmetic.{fit}
use Rattle.vg_sums.specs.Sums.{Polynomial, number, plus}

-- a number lies in a span
pub record In (s : Span) (z : ℤ) : Type 0 where
  pub above : s.least ≤ℤ z
  pub below : z ≤ℤ s.greatest

abbrev pub between : ℤ → ℤ → Span
between least greatest = record { least = least; greatest = greatest }

abbrev pub lesser : ℤ → ℤ → ℤ
lesser x y = if int_lt x y then x else y

abbrev pub greater : ℤ → ℤ → ℤ
greater x y = if int_lt x y then y else x

abbrev pub span_sum : Span → Span → Option Span
span_sum s t = do
  a ← fit (s.least +ℤ t.least)
  b ← fit (s.greatest +ℤ t.greatest)
  Some (between a b)

-- the products of a number and the ends of a span
abbrev pub products_with : ℤ → Span → Option Span
products_with z s = do
  a ← fit (z *ℤ s.least)
  b ← fit (z *ℤ s.greatest)
  Some (between (lesser a b) (greater a b))

abbrev pub hull : Span → Span → Span
hull s t = between (lesser s.least t.least) (greater s.greatest t.greatest)

abbrev pub span_product : Span → Span → Option Span
span_product s t = do
  a ← products_with s.least t
  b ← products_with s.greatest t
  Some (hull a b)

abbrev pub not_negative : Span → Span
not_negative s = between (greater s.least (pos 0)) (greater s.greatest (pos 0))

abbrev pub floor_span : ℕ → Span → Option Span
floor_span k s = if nat_le k 126 then Some (between (floor_shift s.least k) (floor_shift s.greatest k)) else None

-- the numbers of so many bits
abbrev pub bits_span : ℕ → Option Span
bits_span w = if nat_le w 126 then Some (between (pos 0) (pos (2 ^ w - 1))) else None

-- of an atom of a sum with this span, if it has one
abbrev pub atom_span : Kind → Option Span → Option Span
atom_span (Leaf w k) s = bits_span w
atom_span (Floor k) s = s >>= floor_span k
atom_span Positive s = s >>= λ i. Some (not_negative i)
atom_span Negative s = Some (between (pos 0) (pos 1))
atom_span Zero s = Some (between (pos 0) (pos 1))
atom_span (Bitwise op w) s = bits_span w

abbrev pub span : Polynomial → Option Span
span (number z) = Some (between z z)
span (plus k i f r) = do
  a ← atom_span k (span i)
  b ← span f
  c ← span_product a b
  d ← span r
  span_sum c d
