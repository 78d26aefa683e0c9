-- Two terms of one width are the same where their sums are equal coefficient by coefficient modulo 2 ^ width.
use Rattle.std.specs.Prelude.{ℕ, Bool, false, ◌&&◌, nat_eq, Option, Some, None}
use Rattle.vg_base.specs.Trap.{◌>>=◌}
use Rattle.vg_base.specs.Number.{residue}
use Rattle.vg_terms.specs.Term.{Tree, width_of}
use Rattle.vg_sums.specs.Arithmetic.{subtract}
use Rattle.vg_sums.specs.Sums.{Polynomial, number, plus}
use Rattle.vg_sums.specs.Terms.{sum_of}

-- each coefficient is 0 modulo 2 ^ w
abbrev pub vanishes : ℕ → Polynomial → Bool
vanishes w (number z) = nat_eq (residue w z) 0
vanishes w (plus k i f r) = vanishes w f && vanishes w r

abbrev pub is_vanishing : ℕ → Option Polynomial → Bool
is_vanishing w (Some p) = vanishes w p
is_vanishing w None = false

abbrev pub difference : Tree → Tree → Option Polynomial
difference t u = do
  p ← sum_of t
  q ← sum_of u
  subtract p q

abbrev pub have_same_sum : Tree → Tree → Bool
have_same_sum t u = nat_eq (width_of t) (width_of u) && is_vanishing (width_of t) (difference t u)
