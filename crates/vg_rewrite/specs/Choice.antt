-- In which width a value, a shift to the right and a comparison can be had.
use Rattle.std.specs.Prelude.{ℕ, ◌+◌, Bool, ◌&&◌, ◌||◌, nat_eq, nat_le, nat_lt, Option, Some, None, if◌then◌else◌}
use Rattle.vg_base.specs.declared.width.Width.{Width}
use Rattle.vg_base.specs.declared.width.Width.TheVariants.{W8, W16, W32, W64}
use Rattle.vg_base.specs.Width.{bits_of}
use Rattle.vg_rewrite.specs.declared.choice.Compared.{Compared}
use Rattle.vg_rewrite.specs.declared.choice.Reading.{Reading}
use Rattle.vg_rewrite.specs.declared.choice.Reading.TheVariants.{Signed, Unsigned, Either}
use Rattle.vg_rewrite.specs.declared.choice.Shifted.{Shifted}
use Rattle.vg_scalar.specs.declared.shift.Shift.{Shift}
use Rattle.vg_scalar.specs.declared.shift.Shift.TheVariants.{Shl, Lshr, Ashr}
use Rattle.vg_spans.specs.declared.span.Span.{Span}
use Rattle.vg_spans.specs.Span.{is_signed, is_unsigned}

-- ---- values

-- a width is that of the value, or one reading of it has all of the value's span
abbrev pub is_enough : Width → Span → Width → Bool
is_enough own s t =
    nat_eq (bits_of t) (bits_of own) || (is_signed (bits_of t) s || is_unsigned (bits_of t) s)

-- the least width that is enough
abbrev pub natural_width : Width → Span → Width
natural_width own s =
    if is_enough own s W8 then W8
    else if is_enough own s W16 then W16
    else if is_enough own s W32 then W32 else W64

-- ---- shifts to the right

abbrev pub if_then : {A : Type 0} → Bool → A → Option A → Option A
if_then b x o = if b then Some x else o

-- The shift by k places that has, at t bits, the low w bits of one of a number of m bits with this
-- span. The low w bits come from below t bits where k + w is no more.
abbrev pub low_shift : ℕ → ℕ → ℕ → Option Shift
low_shift k w t = if_then (nat_le (k + w) t) Lshr None

abbrev pub shift_at : Shift → ℕ → ℕ → Span → ℕ → ℕ → Option Shift
shift_at Shl k m s w t = None
shift_at Lshr k m s w t =
    if_then (is_unsigned m s && (is_unsigned t s && nat_lt k t)) Lshr (low_shift k w t)
shift_at Ashr k m s w t =
    if_then (is_signed m s && (is_unsigned t s && nat_lt k t)) Lshr
    (if_then (is_signed m s && (is_signed t s && nat_lt k t)) Ashr (low_shift k w t))

-- the same at a width from w bits up to below m bits
abbrev pub shift_between : Shift → ℕ → Width → Span → Width → Width → Option Shift
shift_between op k own s w t =
    if nat_le (bits_of w) (bits_of t) && nat_lt (bits_of t) (bits_of own)
    then shift_at op k (bits_of own) s (bits_of w) (bits_of t)
    else None

abbrev pub shifted : Width → Shift → Shifted
shifted t op = record { width = t; op = op }

abbrev pub or_shift : Option Shift → Width → Shifted → Shifted
or_shift None t else_so = else_so
or_shift (Some op) t else_so = shifted t op

-- the least width that has one, else the number's own with its own shift
abbrev pub shift_choice : Shift → ℕ → Width → Span → Width → Shifted
shift_choice op k own s w =
    or_shift (shift_between op k own s w W8) W8
    (or_shift (shift_between op k own s w W16) W16
    (or_shift (shift_between op k own s w W32) W32 (shifted own op)))

-- ---- comparisons

-- both spans have signed numbers, or unsigned ones, of so many bits alone
abbrev pub both_signed : ℕ → Span → Span → Bool
both_signed t s u = is_signed t s && is_signed t u

abbrev pub both_unsigned : ℕ → Span → Span → Bool
both_unsigned t s u = is_unsigned t s && is_unsigned t u

-- the reading by which numbers of m bits with these spans compare at t bits as they do by theirs
abbrev pub compared_at : Reading → ℕ → Span → Span → ℕ → Option Reading
compared_at Signed m s u t =
    if both_signed m s u
    then if_then (both_signed t s u) Signed (if_then (both_unsigned t s u) Unsigned None)
    else None
compared_at Unsigned m s u t =
    if_then (both_unsigned m s u && both_unsigned t s u) Unsigned None
compared_at Either m s u t = if_then (both_signed t s u || both_unsigned t s u) Either None

-- the same at a width below theirs
abbrev pub compared_below : Reading → Width → Span → Span → Width → Option Reading
compared_below how own s u t =
    if nat_lt (bits_of t) (bits_of own) then compared_at how (bits_of own) s u (bits_of t) else None

abbrev pub compared : Width → Reading → Compared
compared t how = record { width = t; reading = how }

abbrev pub or_compared : Option Reading → Width → Compared → Compared
or_compared None t else_so = else_so
or_compared (Some how) t else_so = compared t how

-- the least width that has one, else theirs with its own reading
abbrev pub comparison_choice : Reading → Width → Span → Span → Compared
comparison_choice how own s u =
    or_compared (compared_below how own s u W8) W8
    (or_compared (compared_below how own s u W16) W16
    (or_compared (compared_below how own s u W32) W32 (compared own how)))
