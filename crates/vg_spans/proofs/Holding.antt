-- Numbers of a width that stand for whole numbers in a span.
use Rattle.std.proofs.Common.{◌≡◌, ℕ, ◌-◌, ◌^◌, ◌<◌, ◌≤◌, Bool, true, false, refl, sym, ap, ◌∙◌, subst, arith, inl, inr}
use Rattle.std.specs.Prelude.{ℤ, pos, negsuc, ◌&&◌, ◌||◌, int_le, ◌≤ℤ◌}
use Rattle.std.proofs.lemmas.Bool.{and_parts, cases_Bool, cond-true, cond-false}
use Rattle.std.proofs.lemmas.Int.{ints}
use Rattle.std.proofs.lemmas.Nat.{pow_pos}
use Rattle.vg_base.specs.Bits.{signed_at}
use Rattle.vg_base.specs.Number.{magnitude, residue}
use Rattle.vg_base.proofs.LowBits.{low-below}
use Rattle.vg_base.proofs.Signed.{residue-signed, residue_below, signed-residue, signed-within}
use Rattle.vg_spans.specs.declared.span.Span.{Span}
use Rattle.vg_spans.specs.Span.{IsIn, is_signed, is_unsigned, is_within, readable, signed_span, unsigned_span, whole_number}

pub le-trans : (a b c : ℤ) → a ≤ℤ b → b ≤ℤ c → a ≤ℤ c
le-trans a b c p q = omega (arith, ints)

pub le-self : (a : ℤ) → a ≤ℤ a
le-self a = omega (arith, ints)

le-from : (a b : ℤ) → int_le a b ≡ true → a ≤ℤ b
le-from a b e = grind (arith, ints)

to-le : (a b : ℤ) → a ≤ℤ b → int_le a b ≡ true
to-le a b h = grind (arith, ints)

-- a span that is in another
pub in-wider : (s t : Span) (z : ℤ) → is_within s t ≡ true → IsIn s z → IsIn t z
in-wider s t z e h =
    let both = and_parts (int_le t.low s.low) (int_le s.high t.high) e in
    record {
      above = le-trans t.low s.low z (le-from t.low s.low both.0) h.above;
      below = le-trans z s.high t.high h.below (le-from s.high t.high both.1);
    }

-- the ends of a span that is in another
pub record Ends (s t : Span) : Type 0 where
  pub above : t.low ≤ℤ s.low
  pub below : s.high ≤ℤ t.high

pub within-ends : (s t : Span) → is_within s t ≡ true → Ends s t
within-ends s t e =
    let both = and_parts (int_le t.low s.low) (int_le s.high t.high) e in
    record { above = le-from t.low s.low both.0; below = le-from s.high t.high both.1 }

pub within : (s t : Span) → t.low ≤ℤ s.low → s.high ≤ℤ t.high → is_within s t ≡ true
within s t p q = λ i. to-le t.low s.low p i && to-le s.high t.high q i

pub within-self : (s : Span) → is_within s s ≡ true
within-self s = within s s (le-self s.low) (le-self s.high)

-- signed numbers
pub signed-magnitude : (w : ℕ) (z : ℤ) → IsIn (signed_span w) z → magnitude z < 2 ^ (w - 1)
signed-magnitude w (pos n) h = omega (arith, ints, h.below, pow_pos (w - 1))
signed-magnitude w (negsuc n) h = omega (arith, ints, h.above, pow_pos (w - 1))

pub magnitude-signed : (w : ℕ) (z : ℤ) → magnitude z < 2 ^ (w - 1) → IsIn (signed_span w) z
magnitude-signed w (pos n) h = record { above = omega (arith, ints); below = omega (arith, ints) }
magnitude-signed w (negsuc n) h = record { above = omega (arith, ints); below = omega (arith, ints) }

pub signed-in : (w n : ℕ) → 0 < w → n < 2 ^ w → IsIn (signed_span w) (signed_at w n)
signed-in w n some h = magnitude-signed w (signed_at w n) (signed-within w n some h)

pub unsigned-in : (w n : ℕ) → n < 2 ^ w → IsIn (unsigned_span w) (pos n)
unsigned-in w n h = record { above = omega (arith, ints); below = omega (arith, ints) }

-- an unsigned number is natural
pub unsigned-natural : (w : ℕ) (z : ℤ) → IsIn (unsigned_span w) z → (n : ℕ) × (z ≡ pos n) × (n < 2 ^ w)
unsigned-natural w (pos n) h = (n, refl, omega (arith, ints, h.below, pow_pos w))
unsigned-natural w (negsuc n) h = absurd (omega (arith, ints, h.above))

-- ---- a number in its span

-- A number of w bits stands for a whole number in a span, which one reading has.
pub record Holds (w : ℕ) (s : Span) (n : ℕ) : Type 0 where
  pub some : 0 < w
  pub below : n < 2 ^ w
  pub readable : (is_signed w s || is_unsigned w s) ≡ true
  pub inside : IsIn s (whole_number w s n)

pub either : (a b : Bool) → (a || b) ≡ true → a ≡ false → b ≡ true
either true b e f = absurd (cc)
either false b e f = e

-- the whole number is the number modulo 2 to the width
pub whole-residue : (w n : ℕ) (s : Span) → n < 2 ^ w → residue w (whole_number w s n) ≡ n
whole-residue w n s h = elim (cases_Bool (is_signed w s)) [
  | inl t ↦ ap (residue w) (cond-true (is_signed w s) (signed_at w n) (pos n) t) ∙ residue-signed w n h
  | inr f ↦ ap (residue w) (cond-false (is_signed w s) (signed_at w n) (pos n) f) ∙ (let same : w ≤ w = omega arith in low-below n w w h same)
]

-- and the one number so in the span
pub whole-only : (w n : ℕ) (s : Span) (z : ℤ) → 0 < w → (is_signed w s || is_unsigned w s) ≡ true → IsIn s z → residue w z ≡ n → whole_number w s n ≡ z
whole-only w n s z some read inside e = elim (cases_Bool (is_signed w s)) [
  | inl t ↦
      cond-true (is_signed w s) (signed_at w n) (pos n) t ∙ ap (signed_at w) (sym e)
      ∙ signed-residue w z some (signed-magnitude w z (in-wider s (signed_span w) z t inside))
  | inr f ↦
      let natural = unsigned-natural w z (in-wider s (unsigned_span w) z (either (is_signed w s) (is_unsigned w s) read f) inside) in
      let same : w ≤ w = omega arith in
      let n-is : n ≡ natural.0 = sym e ∙ ap (residue w) natural.1 ∙ low-below natural.0 w w natural.2 same in
      cond-false (is_signed w s) (signed_at w n) (pos n) f ∙ ap pos n-is ∙ sym natural.1
]

pub holds-by : (w n : ℕ) (s : Span) (z : ℤ) → 0 < w → (is_signed w s || is_unsigned w s) ≡ true → IsIn s z → residue w z ≡ n → Holds w s n
holds-by w n s z some read inside e = record {
  some = some;
  below = subst (λ k. k < 2 ^ w) e (residue_below w z);
  readable = read;
  inside = subst (IsIn s) (sym (whole-only w n s z some read inside e)) inside;
}

pub or-left : (a b : Bool) → a ≡ true → (a || b) ≡ true
or-left true b e = refl
or-left false b e = absurd (cc)

pub or-right : (a b : Bool) → b ≡ true → (a || b) ≡ true
or-right true b e = refl
or-right false b e = e

pub signed-holds : (w n : ℕ) (s : Span) → 0 < w → n < 2 ^ w → is_signed w s ≡ true → IsIn s (signed_at w n) → Holds w s n
signed-holds w n s some below t inside = holds-by w n s (signed_at w n) some (or-left (is_signed w s) (is_unsigned w s) t) inside (residue-signed w n below)

pub unsigned-holds : (w n : ℕ) (s : Span) → 0 < w → n < 2 ^ w → is_unsigned w s ≡ true → IsIn s (pos n) → Holds w s n
unsigned-holds w n s some below t inside =
    let same : w ≤ w = omega arith in
    holds-by w n s (pos n) some (or-right (is_signed w s) (is_unsigned w s) t) inside (low-below n w w below same)

-- all signed numbers hold any
pub any-holds : (w n : ℕ) → 0 < w → n < 2 ^ w → Holds w (signed_span w) n
any-holds w n some below = signed-holds w n (signed_span w) some below (within-self (signed_span w)) (signed-in w n some below)

-- what is made readable holds what the span holds
pub readable-holds : (w n : ℕ) (s : Span) (z : ℤ) → 0 < w → IsIn s z → residue w z ≡ n → Holds w (readable w s) n
readable-holds w n s z some inside e = elim (cases_Bool (is_signed w s || is_unsigned w s)) [
  | inl t ↦ subst (λ r. Holds w r n) (sym (cond-true (is_signed w s || is_unsigned w s) s (signed_span w) t)) (holds-by w n s z some t inside e)
  | inr f ↦
      subst (λ r. Holds w r n) (sym (cond-false (is_signed w s || is_unsigned w s) s (signed_span w) f))
      (any-holds w n some (subst (λ k. k < 2 ^ w) e (residue_below w z)))
]
