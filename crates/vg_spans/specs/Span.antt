-- Spans of whole numbers, and how a number of a width is read by one.
use Rattle.std.specs.Prelude.{ℕ, ◌-◌, ◌^◌, max, ℤ, pos, Bool, ◌&&◌, ◌||◌, int_le, ◌≤ℤ◌, if◌then◌else◌}
use Rattle.std.specs.Int.{int_min, int_max}
use Rattle.vg_base.specs.Bits.{signed_at}
use Rattle.vg_base.specs.Number.{greatest_signed, least_signed, magnitude}
use Rattle.vg_spans.specs.declared.span.Span.{Span}
use Rattle.vg_terms.specs.Known.{digits}

-- the whole numbers from one to another
abbrev pub span : ℤ → ℤ → Span
span low high = record { low = low; high = high }

abbrev pub only : ℤ → Span
only z = span z z

-- the numbers of w bits, read in two's complement, and read unsigned
abbrev pub signed_span : ℕ → Span
signed_span w = span (least_signed w) (greatest_signed w)

abbrev pub unsigned_span : ℕ → Span
unsigned_span w = span (pos 0) (pos (2 ^ w - 1))

-- each number of the first is in the second
abbrev pub is_within : Span → Span → Bool
is_within s t = int_le t.low s.low && int_le s.high t.high

abbrev pub is_signed : ℕ → Span → Bool
is_signed w s = is_within s (signed_span w)

abbrev pub is_unsigned : ℕ → Span → Bool
is_unsigned w s = is_within s (unsigned_span w)

-- the span itself where one reading of w bits has all of it, else all signed numbers
abbrev pub readable : ℕ → Span → Span
readable w s = if is_signed w s || is_unsigned w s then s else signed_span w

-- The whole number that a number of w bits stands for by a span: its signed number where the span has
-- signed numbers alone, else its unsigned one.
abbrev pub whole_number : ℕ → Span → ℕ → ℤ
whole_number w s n = if is_signed w s then signed_at w n else pos n

-- a whole number is in a span
pub record IsIn (s : Span) (z : ℤ) : Type 0 where
  pub above : s.low ≤ℤ z
  pub below : z ≤ℤ s.high

-- from the lesser low end of two spans to the greater high end
abbrev pub hull : Span → Span → Span
hull s t = span (int_min s.low t.low) (int_max s.high t.high)

-- from the lesser to the greater of what f makes of a number and the ends of a span
abbrev pub with_ends : (ℤ → ℤ → ℤ) → ℤ → Span → Span
with_ends f a t = span (int_min (f a t.low) (f a t.high)) (int_max (f a t.low) (f a t.high))

-- from the least to the greatest of what f makes of an end of each of two spans
abbrev pub between_ends : (ℤ → ℤ → ℤ) → Span → Span → Span
between_ends f s t = hull (with_ends f s.low t) (with_ends f s.high t)

-- from what f makes of both low ends to what it makes of both high ends
abbrev pub end_by_end : (ℤ → ℤ → ℤ) → Span → Span → Span
end_by_end f s t = span (f s.low t.low) (f s.high t.high)

-- the bits that the numbers of both spans need beside the sign: the least n for which all four ends
-- are signed numbers of n + 1 bits
abbrev pub bits_needed : Span → Span → ℕ
bits_needed s t =
    max (max (digits (magnitude s.low)) (digits (magnitude s.high)))
    (max (digits (magnitude t.low)) (digits (magnitude t.high)))
