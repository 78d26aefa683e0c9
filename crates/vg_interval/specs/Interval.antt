-- Intervals of whole numbers, and what the operators make of them. Each end has to lie in the range
-- of 128 signed bits; where one does not, there is none.
use Rattle.std.specs.Prelude.{ℕ, ◌+◌, ◌^◌, min, max, ℤ, pos, ◌+ℤ◌, ◌*ℤ◌, Bool, ◌&&◌, ◌||◌, int_lt, int_le, nat_lt, nat_le, Option, Some, None, if◌then◌else◌}
use Rattle.vg_base.specs.Trap.{◌>>=◌}
use Rattle.vg_base.specs.Width.{bits_of}
use Rattle.vg_terms.specs.Known.{digits}
use Rattle.vg_base.specs.Number.{floor_shift, magnitude, least_signed, greatest_signed}
use Rattle.vg_interval.specs.declared.span.Span.{Span}
use Rattle.vg_pseudo.specs.declared.operators.UnaryOp.{UnaryOp}
use Rattle.vg_pseudo.specs.declared.operators.UnaryOp.TheVariants.{Not, Negate, Absolute, Signed, SignExtend, ZeroExtend, Saturate, SaturateUnsigned, Truncate}
use Rattle.vg_pseudo.specs.declared.operators.BinaryOp.{BinaryOp}
use Rattle.vg_pseudo.specs.declared.operators.BinaryOp.TheVariants.{Or, Xor, And, Equal, NotEqual, Less, LessOrEqual, Greater, GreaterOrEqual, ShiftLeft, ShiftRight, Add, Subtract, Multiply, Minimum, Maximum}
use Rattle.vg_pseudo.specs.Whole.{natural, negative, complement, lesser, greater, clamped, greatest_unsigned}

abbrev pub between : ℤ → ℤ → Span
between least greatest = record { least = least; greatest = greatest }

abbrev pub is_small : ℤ → Bool
is_small z = int_le (least_signed 128) z && int_le z (greatest_signed 128)

-- a number of 128 signed bits
unfoldable pub fit : ℤ → Option ℤ
fit z = if is_small z then Some z else None

abbrev pub fitting : ℤ → ℤ → Option Span
fitting least greatest = do
  a ← fit least
  b ← fit greatest
  Some (between a b)

abbrev pub hull : Span → Span → Span
hull i j = between (lesser i.least j.least) (greater i.greatest j.greatest)

-- all numbers of so many bits
abbrev pub signed_span : ℕ → Span
signed_span n = between (least_signed n) (greatest_signed n)

abbrev pub unsigned_span : ℕ → Span
unsigned_span n = between (pos 0) (greatest_unsigned n)

-- all numbers of a slice of so many bits, where 128 signed bits hold them
abbrev pub slice_span : Bool → ℕ → Option Span
slice_span is_signed w =
    if is_signed then (if nat_le w 128 then Some (signed_span w) else None)
    else (if nat_le w 127 then Some (unsigned_span w) else None)

abbrev pub absolute_span : Span → Option Span
absolute_span i =
    if int_le (pos 0) i.least then Some i
    else if int_le i.greatest (pos 0) then fitting (negative i.greatest) (negative i.least)
    else fitting (pos 0) (greater (negative i.least) i.greatest)

-- of one operand that is no slice form
abbrev pub unary_span : UnaryOp → Span → Option Span
unary_span Not i = fitting (complement i.greatest) (complement i.least)
unary_span Negate i = fitting (negative i.greatest) (negative i.least)
unary_span Absolute i = absolute_span i
unary_span Signed i = Some i
unary_span (SignExtend w) i = Some (signed_span (bits_of w))
unary_span (ZeroExtend w) i = Some (unsigned_span (bits_of w))
unary_span (Saturate w) i =
    let held = clamped (least_signed (bits_of w)) (greatest_signed (bits_of w)) in
    Some (between (held i.least) (held i.greatest))
unary_span (SaturateUnsigned w) i =
    let held = clamped (pos 0) (greatest_unsigned (bits_of w)) in
    Some (between (held i.least) (held i.greatest))
unary_span (Truncate w) i = Some (unsigned_span (bits_of w))

-- how many bits each number of both needs, without the sign
abbrev pub bits_needed : Span → Span → ℕ
bits_needed i j =
    max (max (digits (magnitude i.least)) (digits (magnitude i.greatest)))
    (max (digits (magnitude j.least)) (digits (magnitude j.greatest)))

-- of AND, OR and XOR
abbrev pub bits_span : Span → Span → Span
bits_span i j =
    if int_lt i.least (pos 0) || int_lt j.least (pos 0) then signed_span (1 + bits_needed i j)
    else unsigned_span (bits_needed i j)

-- the products of a number and the ends of an interval
abbrev pub products_with : ℤ → Span → Option Span
products_with x j = do
  a ← fit (x *ℤ j.least)
  b ← fit (x *ℤ j.greatest)
  Some (between (lesser a b) (greater a b))

abbrev pub products : Span → Span → Option Span
products i j = do
  first ← products_with i.least j
  second ← products_with i.greatest j
  Some (hull first second)

-- of a shift by as many places as an interval says, all of them up to 127
abbrev pub shifted_left_span : Span → Span → Option Span
shifted_left_span i j =
    products i (between (pos (2 ^ natural j.least)) (pos (2 ^ natural j.greatest)))

-- And with 0, where the amount may be above 127.
abbrev pub left_span : Span → Span → Option Span
left_span i j =
    if nat_lt 127 (natural j.least) then Some (between (pos 0) (pos 0))
    else if nat_lt 127 (natural j.greatest)
    then (shifted_left_span i (between j.least (pos 127))
    >>= λ k. Some (hull k (between (pos 0) (pos 0))))
    else shifted_left_span i j

abbrev pub floor_by : ℤ → ℤ → ℤ
floor_by x n = floor_shift x (min (natural n) 127)

abbrev pub right_span : Span → Span → Span
right_span i j =
    between (lesser (floor_by i.least j.least) (floor_by i.least j.greatest))
    (greater (floor_by i.greatest j.least) (floor_by i.greatest j.greatest))

-- of two operands, the amount of a shift being not negative
abbrev pub binary_span : BinaryOp → Span → Span → Option Span
binary_span Or i j = Some (bits_span i j)
binary_span Xor i j = Some (bits_span i j)
binary_span And i j = Some (bits_span i j)
binary_span Equal i j = Some (unsigned_span 1)
binary_span NotEqual i j = Some (unsigned_span 1)
binary_span Less i j = Some (unsigned_span 1)
binary_span LessOrEqual i j = Some (unsigned_span 1)
binary_span Greater i j = Some (unsigned_span 1)
binary_span GreaterOrEqual i j = Some (unsigned_span 1)
binary_span ShiftLeft i j = left_span i j
binary_span ShiftRight i j = Some (right_span i j)
binary_span Add i j = fitting (i.least +ℤ j.least) (i.greatest +ℤ j.greatest)
binary_span Subtract i j =
    fitting (i.least +ℤ negative j.greatest) (i.greatest +ℤ negative j.least)
binary_span Multiply i j = products i j
binary_span Minimum i j = Some (between (lesser i.least j.least) (lesser i.greatest j.greatest))
binary_span Maximum i j = Some (between (greater i.least j.least) (greater i.greatest j.greatest))
