-- The sum of a term of w bits: its value is congruent to the number of the term modulo 2 ^ w. There is none
-- past a bound.
use Rattle.std.specs.Prelude.{ℕ, ◌-◌, ◌^◌, ℤ, pos, negsuc, Bool, false, ◌&&◌, int_le, nat_eq, nat_lt, Option, Some, None, if◌then◌else◌}
use Rattle.vg_base.specs.Trap.{◌>>=◌}
use Rattle.vg_base.specs.Bits.{signed_at}
use Rattle.vg_base.specs.Number.{residue}
use Rattle.vg_terms.specs.declared.term.OneOp.{OneOp}
use Rattle.vg_terms.specs.declared.term.OneOp.TheVariants.{Zext, Sext, Trunc, Lshr, Ashr}
use Rattle.vg_terms.specs.declared.term.TwoOp.{TwoOp}
use Rattle.vg_terms.specs.declared.term.TwoOp.TheVariants.{Add, Mul, And, Or, Xor, Smin, Smax, Umin, Umax, Eq, Slt, Ult, Cat}
use Rattle.vg_terms.specs.Known.{digits}
use Rattle.vg_terms.specs.Term.{Tree, leaf, constant, one, two, sel, width_of}
use Rattle.vg_sums.specs.declared.kind.Kind.TheVariants.{Leaf, Bitwise}
use Rattle.vg_sums.specs.declared.span.Span.{Span}
use Rattle.vg_sums.specs.Arithmetic.{add, bounded, negated, product, scale, subtract}
use Rattle.vg_sums.specs.Choices.{atom, complement, negative, positive, selected, zero}
use Rattle.vg_sums.specs.Readings.{floored, signed, unsigned}
use Rattle.vg_sums.specs.Spans.{span}
use Rattle.vg_sums.specs.Sums.{Polynomial, nothing, number, plus}

-- ---- bits

-- the number of bits of a constant that has all of its bits, and some
abbrev pub ones : ℕ → Option ℕ
ones v = if nat_lt 0 v && nat_eq v (2 ^ digits v - 1) then Some (digits v) else None

abbrev pub ones_of : ℕ → Polynomial → Option ℕ
ones_of w (number z) = ones (residue w z)
ones_of w (plus k i f r) = None

-- the span shows that the value is 0 or 1
abbrev pub shows_truth : Option Span → Bool
shows_truth (Some s) = int_le (pos 0) s.least && int_le s.greatest (pos 1)
shows_truth None = false

-- an operation on the bits of two sums, as an atom
abbrev pub bitwise : TwoOp → ℕ → Polynomial → Polynomial → Option Polynomial
bitwise op w p q =
    if nat_lt 126 w then None
    else (unsigned w p >>= λ a. unsigned w q >>= λ b. scale (pos (2 ^ w)) a >>= λ c. add c b >>= λ d. Some (atom (Bitwise op w) d))

-- a sum of which all bits or none are taken, as the other says, the negative of which is given; else an atom
abbrev pub masked_by : Polynomial → ℕ → Polynomial → Polynomial → Option Polynomial
masked_by n w p q = if shows_truth (span n) then product n p else bitwise And w p q

abbrev pub masked : ℕ → Polynomial → Polynomial → Option Polynomial
masked w p q = do
  m ← signed w q
  n ← negated m
  masked_by n w p q

abbrev pub both_by : Option ℕ → ℕ → Polynomial → Polynomial → Option Polynomial
both_by (Some k) w p q = unsigned k p
both_by None w p q = masked w p q

-- the bits that both have
abbrev pub both : ℕ → Polynomial → Polynomial → Option Polynomial
both w p q = both_by (ones_of w q) w p q

abbrev pub unequal_by : Option ℕ → ℕ → Polynomial → Polynomial → Option Polynomial
unequal_by (Some k) w p q = if nat_eq k w then complement p else bitwise Xor w p q
unequal_by None w p q = bitwise Xor w p q

-- the bits that one of them has
abbrev pub unequal : ℕ → Polynomial → Polynomial → Option Polynomial
unequal w p q = unequal_by (ones_of w q) w p q

-- ---- least, greatest, comparisons

-- b - max(b - a, 0)
abbrev pub least : Polynomial → Polynomial → Option Polynomial
least a b = do
  d ← subtract b a
  e ← positive d
  subtract b e

-- a + max(b - a, 0)
abbrev pub greatest : Polynomial → Polynomial → Option Polynomial
greatest a b = do
  d ← subtract b a
  e ← positive d
  add a e

abbrev pub is_less : Polynomial → Polynomial → Option Polynomial
is_less a b = subtract a b >>= negative

abbrev pub is_equal : Polynomial → Polynomial → Option Polynomial
is_equal a b = subtract a b >>= zero

-- ---- operations on the sums of terms

-- of an operation of width w and amount k on a term of width m
abbrev pub one_sum : OneOp → ℕ → ℕ → ℕ → Polynomial → Option Polynomial
one_sum Zext w k m p = unsigned m p
one_sum Sext w k m p = signed m p
one_sum Trunc w k m p = Some p
one_sum Lshr w k m p = unsigned m p >>= floored k
one_sum Ashr w k m p = signed m p >>= floored k

abbrev pub joined_bits : ℕ → Polynomial → Polynomial → Option Polynomial
joined_bits n p q =
    if nat_lt 126 n then None
    else (unsigned n q >>= λ b. scale (pos (2 ^ n)) p >>= λ a. add a b)

-- an operation that compares two numbers
abbrev pub read_sum : TwoOp → Polynomial → Polynomial → Option Polynomial
read_sum Smin a b = least a b
read_sum Umin a b = least a b
read_sum Smax a b = greatest a b
read_sum Umax a b = greatest a b
read_sum Slt a b = is_less a b
read_sum Ult a b = is_less a b
read_sum Eq a b = is_equal a b
read_sum _ a b = None

-- the same of two sums read unsigned or signed at n bits
abbrev pub by_unsigned : TwoOp → ℕ → Polynomial → Polynomial → Option Polynomial
by_unsigned op n p q = do
  a ← unsigned n p
  b ← unsigned n q
  read_sum op a b

abbrev pub by_signed : TwoOp → ℕ → Polynomial → Polynomial → Option Polynomial
by_signed op n p q = do
  a ← signed n p
  b ← signed n q
  read_sum op a b

-- of an operation of width w on two terms, the second of width n
abbrev pub two_sum : TwoOp → ℕ → ℕ → Polynomial → Polynomial → Option Polynomial
two_sum Add w n p q = add p q
two_sum Mul w n p q = product p q
two_sum And w n p q = both w p q
two_sum Or w n p q = bitwise Or w p q
two_sum Xor w n p q = unequal w p q
two_sum Smin w n p q = by_signed Smin n p q
two_sum Smax w n p q = by_signed Smax n p q
two_sum Umin w n p q = by_unsigned Umin n p q
two_sum Umax w n p q = by_unsigned Umax n p q
two_sum Eq w n p q = by_unsigned Eq n p q
two_sum Slt w n p q = by_signed Slt n p q
two_sum Ult w n p q = by_unsigned Ult n p q
two_sum Cat w n p q = joined_bits n p q

abbrev pub choice_sum : Polynomial → Polynomial → Polynomial → Option Polynomial
choice_sum c p q = unsigned 1 c >>= λ b. selected b p q

abbrev pub sum_of : Tree → Option Polynomial
sum_of (leaf w k) = Some (atom (Leaf w k) nothing)
sum_of (constant w v) = Some (number (signed_at w v))
sum_of (one op w k x) = do
  p ← sum_of x
  s ← one_sum op w k (width_of x) p
  bounded s
sum_of (two op w x y) = do
  p ← sum_of x
  q ← sum_of y
  s ← two_sum op w (width_of y) p q
  bounded s
sum_of (sel w c x y) = do
  b ← sum_of c
  p ← sum_of x
  q ← sum_of y
  s ← choice_sum b p q
  bounded s
