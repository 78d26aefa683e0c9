-- Sums and products of sums. There is none where a coefficient does not fit 128 signed bits.
use Rattle.std.specs.Prelude.{ℕ, ◌*◌, ◌^◌, ℤ, pos, negsuc, ◌+ℤ◌, ◌*ℤ◌, Bool, true, false, ◌&&◌, int_le, nat_le, Option, Some, None, if◌then◌else◌}
use Rattle.std.specs.Ordering.{int_eq, is_eq, is_lt}
use Rattle.vg_base.specs.Trap.{◌>>=◌}
use Rattle.vg_base.specs.Number.{floor_shift, greatest_signed, least_signed, residue}
use Rattle.vg_sums.specs.declared.kind.Kind.{Kind}
use Rattle.vg_sums.specs.Atoms.{is_truth}
use Rattle.vg_sums.specs.Order.{atom_cmp}
use Rattle.vg_sums.specs.Sums.{Polynomial, nothing, number, plus, size}

abbrev pub is_small : ℤ → Bool
is_small z = int_le (least_signed 128) z && int_le z (greatest_signed 128)

-- a number of 128 signed bits
unfoldable pub fit : ℤ → Option ℤ
fit z = if is_small z then Some z else None

-- the most numbers and atoms of the sum of a term
abbrev pub most_nodes : ℕ
most_nodes = 512

-- the most that the sizes of two sums may make, multiplied, for their product
abbrev pub most_products : ℕ
most_products = 4096

abbrev pub bounded : Polynomial → Option Polynomial
bounded p = if nat_le (size p) most_nodes then Some p else None

abbrev pub is_nothing : Polynomial → Bool
is_nothing (number z) = int_eq z (pos 0)
is_nothing (plus k i f r) = false

-- an atom times a sum, with another added; the atom goes where the factor is 0
abbrev pub joined : Kind → Polynomial → Polynomial → Polynomial → Polynomial
joined k i f r = if is_nothing f then r else plus k i f r

abbrev pub add_number : ℤ → Polynomial → Option Polynomial
add_number z (number y) = fit (z +ℤ y) >>= λ x. Some (number x)
add_number z (plus k i f r) = add_number z r >>= λ s. Some (plus k i f s)

-- An atom times one sum, with another, added to a third: `add_factor` adds the first to a factor of that
-- atom, and `add_rest` adds the other.
abbrev pub merged : Kind → Polynomial → Polynomial → (Polynomial → Option Polynomial) → (Polynomial → Option Polynomial) → Polynomial → Option Polynomial
merged k i f add_factor add_rest (number z) =
    add_rest (number z) >>= λ t. Some (plus k i f t)
merged k i f add_factor add_rest (plus l j g s) =
    if is_eq (atom_cmp k i l j)
    then (add_factor g >>= λ h. add_rest s >>= λ t. Some (joined k i h t))
    else if is_lt (atom_cmp k i l j)
    then (add_rest (plus l j g s) >>= λ t. Some (plus k i f t))
    else (merged k i f add_factor add_rest s >>= λ t. Some (plus l j g t))

abbrev pub add : Polynomial → Polynomial → Option Polynomial
add (number z) q = add_number z q
add (plus k i f r) q = merged k i f (add f) (add r) q

abbrev pub scale : ℤ → Polynomial → Option Polynomial
scale z (number y) = fit (z *ℤ y) >>= λ x. Some (number x)
scale z (plus k i f r) = do
  g ← scale z f
  s ← scale z r
  Some (joined k i g s)

abbrev pub negated : Polynomial → Option Polynomial
negated p = scale (negsuc 0) p

abbrev pub subtract : Polynomial → Polynomial → Option Polynomial
subtract p q = negated q >>= λ n. add p n

-- an atom times a sum; the square of what is only ever 0 or 1 is itself
abbrev pub times_atom : Kind → Polynomial → Polynomial → Option Polynomial
times_atom k i (number z) = Some (joined k i (number z) nothing)
times_atom k i (plus l j g s) =
    if is_eq (atom_cmp k i l j) && is_truth k
    then (add g s >>= λ h. Some (joined k i h nothing))
    else if is_lt (atom_cmp l j k i)
    then (times_atom k i g >>= λ h. times_atom k i s >>= λ t. Some (joined l j h t))
    else Some (plus k i (plus l j g s) nothing)

abbrev pub multiply : Polynomial → Polynomial → Option Polynomial
multiply (number z) q = scale z q
multiply (plus k i f r) q = do
  a ← multiply f q
  b ← times_atom k i a
  c ← multiply r q
  add b c

-- the product of sums that are not too large together
abbrev pub product : Polynomial → Polynomial → Option Polynomial
product p q = if nat_le (size p * size q) most_products then multiply p q else None

-- a sum with each coefficient changed
abbrev pub changed : (ℤ → ℤ) → Polynomial → Polynomial
changed f (number z) = number (f z)
changed f (plus k i g r) = joined k i (changed f g) (changed f r)

-- the sum of the coefficients over 2 ^ k, rounded down, and that of what is left of them
abbrev pub quotient : ℕ → Polynomial → Polynomial
quotient k p = changed (λ z. floor_shift z k) p

abbrev pub remainder : ℕ → Polynomial → Polynomial
remainder k p = changed (λ z. pos (residue k z)) p
