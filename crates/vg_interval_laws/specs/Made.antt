-- Each end of an interval is made of some operands.
use Rattle.std.specs.Prelude.{◌≡◌, ℤ, pos, ◌≤ℤ◌, true, Some}
use Rattle.vg_pseudo.specs.declared.operators.UnaryOp.{UnaryOp}
use Rattle.vg_pseudo.specs.declared.operators.UnaryOp.TheVariants.{SignExtend, ZeroExtend, Truncate}
use Rattle.vg_pseudo.specs.declared.operators.BinaryOp.{BinaryOp}
use Rattle.vg_pseudo.specs.declared.operators.BinaryOp.TheVariants.{ShiftLeft, ShiftRight, Add, Subtract, Multiply, Minimum, Maximum}
use Rattle.vg_pseudo.specs.Whole.{unary_result, binary_result}
use Rattle.vg_interval.specs.declared.span.Span.{Span}
use Rattle.vg_interval.specs.Interval.{is_small, unary_span, binary_span}

-- a number of an interval
abbrev pub Lies : Span → ℤ → Type 0
Lies i z = (i.least ≤ℤ z) × (z ≤ℤ i.greatest)

-- numbers of 128 signed bits, at least one of them
pub record IsSpan (i : Span) : Type 0 where
  pub some : i.least ≤ℤ i.greatest
  pub first : is_small i.least ≡ true
  pub last : is_small i.greatest ≡ true

-- what a function makes of some number of an interval
abbrev pub MadeOfOne : (ℤ → ℤ) → Span → ℤ → Type 0
MadeOfOne f i z = (x : ℤ) × Lies i x × (f x ≡ z)

-- what a function makes of some number of each of two intervals
abbrev pub MadeOfTwo : (ℤ → ℤ → ℤ) → Span → Span → ℤ → Type 0
MadeOfTwo f i j z = (x : ℤ) × (y : ℤ) × Lies i x × Lies j y × (f x y ≡ z)

-- The interval of a function of the lowest bits goes by how many they are: it is made of its own
-- numbers.
abbrev pub one_from : UnaryOp → Span → Span → Span
one_from (SignExtend w) i k = k
one_from (ZeroExtend w) i k = k
one_from (Truncate w) i k = k
one_from op i k = i

-- The interval of AND, OR and XOR goes by how many bits the ends need, and that of a comparison is
-- 0 and 1: they are made of their own numbers.
abbrev pub two_from : BinaryOp → Span → Span → Span
two_from ShiftLeft i k = i
two_from ShiftRight i k = i
two_from Add i k = i
two_from Subtract i k = i
two_from Multiply i k = i
two_from Minimum i k = i
two_from Maximum i k = i
two_from op i k = k

-- the amount of a shift is not negative
abbrev pub IsAmountOf : BinaryOp → Span → Type 0
IsAmountOf ShiftLeft j = pos 0 ≤ℤ j.least
IsAmountOf ShiftRight j = pos 0 ≤ℤ j.least
IsAmountOf op j = Unit {0}

-- both ends of an interval are made of numbers of another
pub record UnaryEnds (op : UnaryOp) (i k : Span) : Type 0 where
  pub least : MadeOfOne (unary_result op) i k.least
  pub greatest : MadeOfOne (unary_result op) i k.greatest

-- both ends of an interval are made of numbers of two others
pub record BinaryEnds (op : BinaryOp) (i j k : Span) : Type 0 where
  pub least : MadeOfTwo (binary_result op) i j k.least
  pub greatest : MadeOfTwo (binary_result op) i j k.greatest

abbrev pub EndsAreMade : Type 0
EndsAreMade =
    ((op : UnaryOp) (i k : Span) → IsSpan i → unary_span op i ≡ Some k
    → UnaryEnds op (one_from op i k) k)
    × ((op : BinaryOp) (i j k : Span) → IsSpan i → IsSpan j → IsAmountOf op j
    → binary_span op i j ≡ Some k → BinaryEnds op (two_from op i k) (two_from op j k) k)
