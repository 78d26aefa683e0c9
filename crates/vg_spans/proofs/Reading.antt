-- Operands of a width, read in each way.
use Rattle.std.proofs.Common.{◌≡◌, ℕ, ◌^◌, ◌<◌, ◌≤◌, true, sym, ap, ◌∙◌, subst, arith, inl, inr}
use Rattle.std.specs.Prelude.{ℤ, pos, ◌||◌, if◌then◌else◌}
use Rattle.std.proofs.lemmas.Bool.{cases_Bool, cond-true, cond-false}
use Rattle.vg_base.specs.Bits.{signed_at}
use Rattle.vg_base.specs.Number.{residue}
use Rattle.vg_base.proofs.LowBits.{low-below}
use Rattle.vg_base.proofs.Signed.{residue-signed}
use Rattle.vg_spans.specs.declared.operand_spans.OperandSpans.{OperandSpans}
use Rattle.vg_spans.specs.declared.span.Span.{Span}
use Rattle.vg_spans.specs.Span.{IsIn, is_signed, is_unsigned, is_within, only, signed_span, unsigned_span, whole_number}
use Rattle.vg_spans.specs.Spans.{signed_numbers}
use Rattle.vg_spans.proofs.Holding.{Holds, in-wider, le-self, or-left, signed-in, unsigned-in, unsigned-natural, whole-residue, within, within-self}

-- a number of w bits is in the spans of an operand: as a whole number, signed, and unsigned
pub record ReadsAs (w : ℕ) (x : OperandSpans) (n : ℕ) : Type 0 where
  pub some : 0 < w
  pub below : n < 2 ^ w
  pub readable : (is_signed w x.plain || is_unsigned w x.plain) ≡ true
  pub whole : ℤ
  pub plain : IsIn x.plain whole
  pub residue : residue w whole ≡ n
  pub signed : IsIn x.signed (signed_at w n)
  pub signed_fits : is_signed w x.signed ≡ true
  pub unsigned : IsIn x.unsigned (pos n)
  pub unsigned_fits : is_unsigned w x.unsigned ≡ true

record BothSigned (w n : ℕ) (s : Span) : Type 0 where
  inside : IsIn s (signed_at w n)
  fits : is_signed w s ≡ true

signed-of : (w n : ℕ) (s : Span) → Holds w s n → BothSigned w n (signed_numbers w s)
signed-of w n s h = elim (cases_Bool (is_signed w s)) [
  | inl t ↦ subst (BothSigned w n) (sym (cond-true (is_signed w s) s (signed_span w) t)) (record {
    inside = subst (IsIn s) (cond-true (is_signed w s) (signed_at w n) (pos n) t) h.inside;
    fits = t;
  })
  | inr f ↦ subst (BothSigned w n) (sym (cond-false (is_signed w s) s (signed_span w) f)) (record {
    inside = signed-in w n h.some h.below;
    fits = within-self (signed_span w);
  })
]

record BothUnsigned (w n : ℕ) (s : Span) : Type 0 where
  inside : IsIn s (pos n)
  fits : is_unsigned w s ≡ true

unsigned-of : (w n : ℕ) (s : Span) → Holds w s n → BothUnsigned w n (if is_unsigned w s then s else unsigned_span w)
unsigned-of w n s h = elim (cases_Bool (is_unsigned w s)) [
  | inl t ↦ subst (BothUnsigned w n) (sym (cond-true (is_unsigned w s) s (unsigned_span w) t)) (record {
    inside =
        let z = whole_number w s n in
        let natural = unsigned-natural w z (in-wider s (unsigned_span w) z t h.inside) in
        let same : w ≤ w = omega arith in
        let is : natural.0 ≡ n = sym (low-below natural.0 w w natural.2 same) ∙ ap (residue w) (sym natural.1) ∙ whole-residue w n s h.below in
        subst (λ k. IsIn s (pos k)) is (subst (IsIn s) natural.1 h.inside);
    fits = t;
  })
  | inr f ↦ subst (BothUnsigned w n) (sym (cond-false (is_unsigned w s) s (unsigned_span w) f)) (record {
    inside = unsigned-in w n h.below;
    fits = within-self (unsigned_span w);
  })
]

-- a value that its span holds
pub value-reads : (w n : ℕ) (s : Span) → Holds w s n
    → ReadsAs w (record { plain = s; signed = signed_numbers w s; unsigned = if is_unsigned w s then s else unsigned_span w }) n
value-reads w n s h =
    let x = signed-of w n s h in
    let y = unsigned-of w n s h in
    record {
      some = h.some;
      below = h.below;
      readable = h.readable;
      whole = whole_number w s n;
      plain = h.inside;
      residue = whole-residue w n s h.below;
      signed = x.inside;
      signed_fits = x.fits;
      unsigned = y.inside;
      unsigned_fits = y.fits;
    }

in-only : (z : ℤ) → IsIn (only z) z
in-only z = record { above = le-self z; below = le-self z }

only-within : (z : ℤ) (t : Span) → IsIn t z → is_within (only z) t ≡ true
only-within z t h = within (only z) t h.above h.below

-- a constant
pub constant-reads : (w n : ℕ) → 0 < w → n < 2 ^ w
    → ReadsAs w (record { plain = only (signed_at w n); signed = signed_numbers w (only (signed_at w n)); unsigned = only (pos n) }) n
constant-reads w n some below =
    let z = signed_at w n in
    let fits : is_signed w (only z) ≡ true = only-within z (signed_span w) (signed-in w n some below) in
    let same : signed_numbers w (only z) ≡ only z = cond-true (is_signed w (only z)) (only z) (signed_span w) fits in
    record {
      some = some;
      below = below;
      readable = or-left (is_signed w (only z)) (is_unsigned w (only z)) fits;
      whole = z;
      plain = in-only z;
      residue = residue-signed w n below;
      signed = subst (λ s. IsIn s z) (sym same) (in-only z);
      signed_fits = ap (is_signed w) same ∙ fits;
      unsigned = in-only (pos n);
      unsigned_fits = only-within (pos n) (unsigned_span w) (unsigned-in w n below);
    }
