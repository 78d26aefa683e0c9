-- Whole numbers that numbers of a width stand for.
use Rattle.std.proofs.Common.{◌≡◌, ℕ, ◌-◌, ◌%◌, ◌^◌, ◌<◌, ◌≤◌, true, sym, ap, ◌∙◌, arith}
use Rattle.std.specs.Prelude.{ℤ, pos, ◌||◌}
use Rattle.vg_base.specs.Bits.{signed_at}
use Rattle.vg_base.specs.Number.{magnitude, residue}
use Rattle.vg_base.proofs.LowBits.{low-below}
use Rattle.vg_base.proofs.Signed.{residue-low, residue-signed, signed-residue}
use Rattle.vg_spans.specs.declared.span.Span.{Span}
use Rattle.vg_spans.specs.Span.{IsIn, is_signed, is_unsigned, only, signed_span, unsigned_span, whole_number}
use Rattle.vg_spans.proofs.Holding.{Holds, in-wider, le-self, or-left, signed-in, signed-magnitude, unsigned-natural, whole-residue, within}

-- a number of w bits stands for a whole number in a span of one reading
pub record Stands (w : ℕ) (s : Span) (n : ℕ) (z : ℤ) : Type 0 where
  pub some : 0 < w
  pub below : n < 2 ^ w
  pub readable : (is_signed w s || is_unsigned w s) ≡ true
  pub residue : residue w z ≡ n
  pub inside : IsIn s z

pub held-stands : (w n : ℕ) (s : Span) → Holds w s n → Stands w s n (whole_number w s n)
held-stands w n s h = record {
  some = h.some;
  below = h.below;
  readable = h.readable;
  residue = whole-residue w n s h.below;
  inside = h.inside;
}

pub constant-stands : (w n : ℕ) → 0 < w → n < 2 ^ w → Stands w (only (signed_at w n)) n (signed_at w n)
constant-stands w n some below =
    let z = signed_at w n in
    let inside = signed-in w n some below in
    record {
      some = some;
      below = below;
      readable = or-left (is_signed w (only z)) (is_unsigned w (only z)) (within (only z) (signed_span w) inside.above inside.below);
      residue = residue-signed w n below;
      inside = record { above = le-self z; below = le-self z };
    }

module _ (w : ℕ) (s : Span) (n : ℕ) (z : ℤ) (h : Stands w s n z) where
  -- a span of signed numbers of t bits
  pub small : (t : ℕ) → is_signed t s ≡ true → magnitude z < 2 ^ (t - 1)
  small t e = signed-magnitude t z (in-wider s (signed_span t) z e h.inside)

  -- so the number is read back from t bits
  pub back : (t : ℕ) → 0 < t → is_signed t s ≡ true → signed_at t (residue t z) ≡ z
  back t some e = signed-residue t z some (small t e)

  pub signed-is : is_signed w s ≡ true → signed_at w n ≡ z
  signed-is e = ap (signed_at w) (sym h.residue) ∙ back w h.some e

  -- a span of unsigned numbers of t bits
  pub natural : (t : ℕ) → is_unsigned t s ≡ true → (m : ℕ) × (z ≡ pos m) × (m < 2 ^ t)
  natural t e = unsigned-natural t z (in-wider s (unsigned_span t) z e h.inside)

  -- the low bits of the number are those of the whole number
  pub low-residue : (t : ℕ) → t ≤ w → n % 2 ^ t ≡ residue t z
  low-residue t l = ap (λ k. k % 2 ^ t) (sym h.residue) ∙ residue-low w t z l

-- a natural number of t bits is its residue
pub natural-residue : (t m : ℕ) (z : ℤ) → z ≡ pos m → m < 2 ^ t → residue t z ≡ m
natural-residue t m z e l = let same : t ≤ t = omega arith in ap (residue t) e ∙ low-below m t t l same
