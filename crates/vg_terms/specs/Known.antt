-- Known widths: how many bits the number of a term needs, in whatever environment.
use Rattle.std.specs.Prelude.{ℕ, ◌+◌, ◌-◌, ◌^◌, ◌<◌, min, max, nat_lt, if◌then◌else◌}
use Rattle.std.specs.Int.Count.{count_leading_zeros}
use Rattle.vg_base.specs.Bits.{signed_at}
use Rattle.vg_base.specs.Number.{magnitude}
use Rattle.vg_terms.specs.declared.term.OneOp.{OneOp}
use Rattle.vg_terms.specs.declared.term.OneOp.TheVariants.{Zext, Sext, Trunc, Lshr, Ashr}
use Rattle.vg_terms.specs.declared.term.TwoOp.{TwoOp}
use Rattle.vg_terms.specs.declared.term.TwoOp.TheVariants.{Add, Mul, And, Or, Xor, Smin, Smax, Umin, Umax, Eq, Slt, Ult, Cat}
use Rattle.vg_terms.specs.declared.known.Known.{Known}
use Rattle.vg_terms.specs.Term.{Tree, leaf, constant, one, two, sel, width_of}

-- true widths of the number v of w bits: read unsigned it is below 2 ^ unsigned, and read signed it
-- lies in the range of `signed` bits
pub record IsKnown (w v : ℕ) (k : Known) : Type 0 where
  pub some_unsigned : 0 < k.unsigned
  pub some_signed : 0 < k.signed
  pub below : v < 2 ^ k.unsigned
  pub within : magnitude (signed_at w v) < 2 ^ (k.signed - 1)

-- the digits of a number below 2 ^ 128 in binary, none of 0
abbrev pub digits : ℕ → ℕ
digits n = 128 - count_leading_zeros 128 n

abbrev pub known_at : ℕ → ℕ → Known
known_at u s = record { unsigned = u; signed = s }

-- no more than the width w; and below 2 ^ u is within u + 1 signed bits
abbrev pub cut_to : ℕ → Known → Known
cut_to w k = known_at (min k.unsigned w) (min (min k.signed w) (min k.unsigned w + 1))

-- an operation of width w and amount k on a term of width m with these known widths
abbrev pub one_known : OneOp → ℕ → ℕ → ℕ → Known → Known
one_known Zext w k m x = known_at x.unsigned (x.unsigned + 1)
one_known Sext w k m x = known_at (if nat_lt x.unsigned m then x.unsigned else w) x.signed
one_known Trunc w k m x = x
one_known Lshr w k m x = known_at (max 1 (x.unsigned - k)) w
one_known Ashr w k m x = known_at (if nat_lt x.unsigned w then max 1 (x.unsigned - k) else w) (max 1 (x.signed - k))

-- the signed bits of a product: a number read unsigned counts where it needs fewer bits so
abbrev pub product_signed : Known → Known → ℕ
product_signed x y = min (x.signed + y.signed) (min (x.signed + y.unsigned) (x.unsigned + y.signed))

-- an operation of width w on two terms, the second of width n; what is above w is cut
abbrev pub two_known : TwoOp → ℕ → ℕ → Known → Known → Known
two_known Add w n x y = known_at (max x.unsigned y.unsigned + 1) (max x.signed y.signed + 1)
two_known Mul w n x y = known_at (x.unsigned + y.unsigned) (product_signed x y)
two_known And w n x y = known_at (min x.unsigned y.unsigned) (max x.signed y.signed)
two_known Or w n x y = known_at (max x.unsigned y.unsigned) (max x.signed y.signed)
two_known Xor w n x y = known_at (max x.unsigned y.unsigned) (max x.signed y.signed)
two_known Smin w n x y = known_at (max x.unsigned y.unsigned) (max x.signed y.signed)
two_known Smax w n x y = known_at (max x.unsigned y.unsigned) (max x.signed y.signed)
two_known Umin w n x y = known_at (min x.unsigned y.unsigned) w
two_known Umax w n x y = known_at (max x.unsigned y.unsigned) w
two_known Eq w n x y = known_at w w
two_known Slt w n x y = known_at w w
two_known Ult w n x y = known_at w w
two_known Cat w n x y = known_at (n + x.unsigned) (n + x.signed)

-- known widths from those of the children
abbrev pub known : Tree → Known
known (leaf w k) = cut_to w (known_at w w)
known (constant w v) = cut_to w (known_at (max 1 (digits v)) (digits (magnitude (signed_at w v)) + 1))
known (one op w k x) = cut_to w (one_known op w k (width_of x) (known x))
known (two op w x y) = cut_to w (two_known op w (width_of y) (known x) (known y))
known (sel w c x y) =
    cut_to w (known_at (max (known x).unsigned (known y).unsigned) (max (known x).signed (known y).signed))
