-- Sums with the value of a term of so many bits read unsigned or signed, and shifts to the right.
use Rattle.std.specs.Prelude.{ℕ, ◌-◌, ◌^◌, ℤ, pos, negsuc, nat_eq, nat_lt, Option, Some, None, if◌then◌else◌}
use Rattle.std.specs.Ordering.{int_eq}
use Rattle.vg_base.specs.Trap.{◌>>=◌}
use Rattle.vg_base.specs.Bits.{signed_at}
use Rattle.vg_base.specs.Number.{floor_shift, residue}
use Rattle.vg_sums.specs.declared.kind.Kind.TheVariants.{Floor}
use Rattle.vg_sums.specs.declared.span.Span.{Span}
use Rattle.vg_sums.specs.Arithmetic.{add, add_number, changed, fit, quotient, remainder, scale}
use Rattle.vg_sums.specs.Spans.{span}
use Rattle.vg_sums.specs.Sums.{Polynomial, nothing, number, plus}

-- the one multiple of 2 ^ k that the numbers of a span have below them
abbrev pub common_floor : ℕ → Span → Option ℤ
common_floor k s =
    if int_eq (floor_shift s.least k) (floor_shift s.greatest k)
    then Some (floor_shift s.least k)
    else None

-- the floor of the value of a sum over 2 ^ k, where its span shows it
abbrev pub shown_floor : ℕ → Polynomial → Option ℤ
shown_floor k p = span p >>= common_floor k

-- an atom as a sum
abbrev pub floor_atom : ℕ → Polynomial → Polynomial
floor_atom k p = plus (Floor k) p (number (pos 1)) nothing

-- the floor of a sum: a number that its span shows, else an atom
abbrev pub floor_by : Option ℤ → ℕ → Polynomial → Polynomial
floor_by (Some z) k p = number z
floor_by None k p = floor_atom k p

-- over 2 ^ k, rounded down: whole multiples are taken out
abbrev pub floored : ℕ → Polynomial → Option Polynomial
floored k p =
    if nat_lt 126 k then None
    else if nat_eq k 0 then Some p
    else add (quotient k p) (floor_by (shown_floor k (remainder k p)) k (remainder k p))

-- a sum less a multiple of 2 ^ w
abbrev pub less_multiple : ℕ → Polynomial → Polynomial → Option Polynomial
less_multiple w multiple p = scale (negsuc (2 ^ w - 1)) multiple >>= λ m. add p m

-- each coefficient as the number of w bits in two's complement that it is modulo 2 ^ w
abbrev pub balanced : ℕ → Polynomial → Polynomial
balanced w p = changed (λ z. signed_at w (residue w z)) p

-- by the floor that the span shows, else by an atom
abbrev pub reading_by : Option ℤ → ℕ → Polynomial → Option Polynomial
reading_by (Some z) w p = less_multiple w (number z) p
reading_by None w p = floored w p >>= λ m. less_multiple w m p

abbrev pub reading_balanced : ℕ → Polynomial → Option Polynomial
reading_balanced w p = reading_by (shown_floor w p) w p

-- the value of a sum modulo 2 ^ w, where its own span shows it, else from its balanced coefficients
abbrev pub reading_of : Option ℤ → ℕ → Polynomial → Option Polynomial
reading_of (Some z) w p = less_multiple w (number z) p
reading_of None w p = reading_balanced w (balanced w p)

abbrev pub unsigned : ℕ → Polynomial → Option Polynomial
unsigned w p = if nat_lt 126 w then None else reading_of (shown_floor w p) w p

-- the value of a sum modulo 2 ^ w, read in two's complement
abbrev pub signed : ℕ → Polynomial → Option Polynomial
signed w p =
    if nat_lt 126 w then None
    else (add_number (pos (2 ^ (w - 1))) p >>= λ a. unsigned w a >>= λ b. add_number (negsuc (2 ^ (w - 1) - 1)) b)
