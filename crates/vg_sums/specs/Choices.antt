-- The greater of a sum and 0, and tests of sums, as sums.
use Rattle.std.specs.Prelude.{ℤ, pos, negsuc, Bool, false, int_lt, int_le, Option, Some, None, if◌then◌else◌}
use Rattle.vg_base.specs.Trap.{◌>>=◌}
use Rattle.vg_sums.specs.declared.kind.Kind.{Kind}
use Rattle.vg_sums.specs.declared.kind.Kind.TheVariants.{Positive, Negative, Zero}
use Rattle.vg_sums.specs.declared.span.Span.{Span}
use Rattle.vg_sums.specs.Arithmetic.{add, add_number, multiply, negated, product, subtract}
use Rattle.vg_sums.specs.Spans.{span}
use Rattle.vg_sums.specs.Sums.{Polynomial, nothing, number, plus}

abbrev pub one : Polynomial
one = number (pos 1)

-- an atom of a kind and of a sum, as a sum
abbrev pub atom : Kind → Polynomial → Polynomial
atom k p = plus k p one nothing

-- the coefficient of the first product
abbrev pub leading : Polynomial → ℤ
leading (number z) = z
leading (plus k i f r) = leading f

-- of a sum and its negative, one is turned
abbrev pub is_turned : Polynomial → Bool
is_turned p = int_lt (leading p) (pos 0)

-- the span shows that the value is not below 0, or is below 0
abbrev pub shows_natural : Option Span → Bool
shows_natural (Some s) = int_le (pos 0) s.least
shows_natural None = false

abbrev pub shows_negative : Option Span → Bool
shows_negative (Some s) = int_lt s.greatest (pos 0)
shows_negative None = false

abbrev pub is_natural : Polynomial → Bool
is_natural p = shows_natural (span p)

abbrev pub is_negative : Polynomial → Bool
is_negative p = shows_negative (span p)

-- the greater of a sum and 0; max(P, 0) is P + max(-P, 0)
abbrev pub positive : Polynomial → Option Polynomial
positive p =
    if is_natural p then Some p
    else if is_negative p then Some nothing
    else if is_turned p then (negated p >>= λ n. add p (atom Positive n))
    else Some (atom Positive p)

-- -1 less a sum
abbrev pub complement : Polynomial → Option Polynomial
complement p = negated p >>= λ n. add_number (negsuc 0) n

-- 1 less a sum
abbrev pub opposite : Polynomial → Option Polynomial
opposite p = negated p >>= λ n. add_number (pos 1) n

-- 1 where the value is below 0, else 0; P is below 0 unless -1 - P is
abbrev pub negative : Polynomial → Option Polynomial
negative p =
    if is_natural p then Some nothing
    else if is_negative p then Some one
    else if is_turned p then (complement p >>= λ n. opposite (atom Negative n))
    else Some (atom Negative p)

-- 1 where the value is 0, else 0: what is not below 0 is 0 where it is below 1
abbrev pub zero : Polynomial → Option Polynomial
zero p =
    if is_negative p then Some nothing
    else if is_natural p then (add_number (negsuc 0) p >>= negative)
    else if is_turned p then (negated p >>= λ n. Some (atom Zero n))
    else Some (atom Zero p)

-- one of two sums, by a sum of value 1 or 0
abbrev pub selected : Polynomial → Polynomial → Polynomial → Option Polynomial
selected c p q = do
  d ← subtract p q
  e ← product c d
  add q e
