-- The lesser and the greater of two numbers at a width in which they compare alike.
use Rattle.std.proofs.Common.{◌≡◌, ℕ, ◌%◌, ◌^◌, ◌<◌, ◌≤◌, Bool, true, false, List, refl, sym, ap, ◌∙◌, subst, arith, inl, inr}
use Rattle.std.specs.Prelude.{ℤ, pos, ◌||◌, max, min, nat_eq, nat_lt, if◌then◌else◌}
use Rattle.std.specs.Int.{int_min, int_max}
use Rattle.std.proofs.lemmas.Bool.{and_parts, cond-true, eq-eqb}
use Rattle.std.proofs.lemmas.Nat.{mod_below, pow_pos}
use Rattle.vg_base.specs.Bits.{signed_at}
use Rattle.vg_base.specs.declared.width.Width.{Width}
use Rattle.vg_base.specs.Width.{bits_of}
use Rattle.vg_base.specs.Number.{residue}
use Rattle.vg_base.proofs.LowBits.{below_wider, low-below}
use Rattle.vg_base.proofs.Signed.{residue-low, residue_below}
use Rattle.vg_rewrite.specs.declared.choice.Reading.{Reading}
use Rattle.vg_rewrite.specs.declared.choice.Reading.TheVariants.{Signed, Unsigned, Either}
use Rattle.vg_rewrite.specs.Choice.{is_enough}
use Rattle.vg_rewrite.specs.Form.{greater_by, lesser_by}
use Rattle.vg_rewrite.proofs.Comparing.{is_less, is_order, SignedFits, UnsignedFits}
use Rattle.vg_rewrite.proofs.Stands.{low-residue, natural, natural-residue, Stands}
use Rattle.vg_scalar.specs.Scalar.{low, two_result}
use Rattle.vg_shapes.specs.declared.wanted.Wanted.{Wanted}
use Rattle.vg_shapes.specs.declared.wanted.Wanted.TheVariants.{Value, Constant, Nothing}
use Rattle.vg_shapes.specs.RunUnits.{number_of}
use Rattle.vg_spans.specs.declared.span.Span.{Span}
use Rattle.vg_spans.specs.Span.{end_by_end, is_signed, is_unsigned, only, signed_span, unsigned_span}
use Rattle.vg_spans.specs.Spans.{operand_span, signed_numbers, unsigned_numbers}
use Rattle.vg_spans.proofs.Holding.{or-left, or-right}
use Rattle.vg_spans.proofs.Rows.{max-within, min-within}

min-picks : (a b : ℕ) → min a b ≡ (if nat_lt a b then a else b)
min-picks a b = grind arith

max-picks : (a b : ℕ) → max a b ≡ (if nat_lt a b then b else a)
max-picks a b = grind arith

pub lesser-picks : (r : Reading) (t p q : ℕ) → is_order r ≡ true → two_result (lesser_by r) t p q ≡ (if is_less r t p q then low t p else low t q)
lesser-picks Signed t p q e = refl
lesser-picks Unsigned t p q e = min-picks (low t p) (low t q)
lesser-picks Either t p q e = absurd (cc)

pub greater-picks : (r : Reading) (t p q : ℕ) → is_order r ≡ true → two_result (greater_by r) t p q ≡ (if is_less r t p q then low t q else low t p)
greater-picks Signed t p q e = refl
greater-picks Unsigned t p q e = max-picks (low t p) (low t q)
greater-picks Either t p q e = absurd (cc)

itself : (w n : ℕ) → n < 2 ^ w → n % 2 ^ w ≡ n
itself w n l = let same : w ≤ w = omega arith in low-below n w w l same

-- the low bits of a form at t bits, and of the number
low-form : (m t w a : ℕ) (s : Span) (x : ℤ) → Stands m s a x → w ≤ t → w ≤ m → low t (residue t x) % 2 ^ w ≡ low m a % 2 ^ w
low-form m t w a s x h l k =
    ap (λ v. v % 2 ^ w) (itself t (residue t x) (residue_below t x)) ∙ residue-low t w x l ∙ sym (low-residue m s a x h w k) ∙ ap (λ v. v % 2 ^ w) (sym (itself m a h.below))

-- one of two by one test
pub pick-low : (m t w a b : ℕ) (s u : Span) (x y : ℤ) (c d : Bool) → Stands m s a x → Stands m u b y → w ≤ t → w ≤ m → c ≡ d
    → (if c then low t (residue t x) else low t (residue t y)) % 2 ^ w ≡ (if d then low m a else low m b) % 2 ^ w
pick-low m t w a b s u x y true d h k l j e = low-form m t w a s x h l j ∙ ap (λ z. (if z then low m a else low m b) % 2 ^ w) e
pick-low m t w a b s u x y false d h k l j e = low-form m t w b u y k l j ∙ ap (λ z. (if z then low m a else low m b) % 2 ^ w) e

pub pick-small : (t p q : ℕ) (c : Bool) → (if c then low t p else low t q) < 2 ^ t
pick-small t p q true = mod_below p (2 ^ t) (pow_pos t)
pick-small t p q false = mod_below q (2 ^ t) (pow_pos t)

-- ---- the width that is chosen is enough for the result

-- a constant stands for its signed number
abbrev pub IsOf : Wanted → ℤ → Type 0
IsOf (Value v) z = Unit {0}
IsOf (Constant m n) z = z ≡ signed_at m n
IsOf Nothing z = Unit {0}

pub enough-own : (own t : Width) (s : Span) → bits_of t ≡ bits_of own → is_enough own s t ≡ true
enough-own own t s e = or-left (nat_eq (bits_of t) (bits_of own)) (is_signed (bits_of t) s || is_unsigned (bits_of t) s) (eq-eqb (bits_of t) (bits_of own) e)

pub enough-signed : (own t : Width) (s : Span) → is_signed (bits_of t) s ≡ true → is_enough own s t ≡ true
enough-signed own t s e = or-right (nat_eq (bits_of t) (bits_of own)) (is_signed (bits_of t) s || is_unsigned (bits_of t) s) (or-left (is_signed (bits_of t) s) (is_unsigned (bits_of t) s) e)

pub enough-unsigned : (own t : Width) (s : Span) → is_unsigned (bits_of t) s ≡ true → is_enough own s t ≡ true
enough-unsigned own t s e = or-right (nat_eq (bits_of t) (bits_of own)) (is_signed (bits_of t) s || is_unsigned (bits_of t) s) (or-right (is_signed (bits_of t) s) (is_unsigned (bits_of t) s) e)

-- a function of both ends that stays in each span that has both
pub record StaysIn (f : ℤ → ℤ → ℤ) : Type 0 where
  pub signed : (t : ℕ) (s u : Span) → is_signed t s ≡ true → is_signed t u ≡ true → is_signed t (end_by_end f s u) ≡ true
  pub unsigned : (t : ℕ) (s u : Span) → is_unsigned t s ≡ true → is_unsigned t u ≡ true → is_unsigned t (end_by_end f s u) ≡ true

pub min-stays : StaysIn int_min
min-stays = record { signed = λ t s u. min-within s u (signed_span t); unsigned = λ t s u. min-within s u (unsigned_span t) }

pub max-stays : StaysIn int_max
max-stays = record { signed = λ t s u. max-within s u (signed_span t); unsigned = λ t s u. max-within s u (unsigned_span t) }

pub signed-enough : (f : ℤ → ℤ → ℤ) (own t : Width) (s u : Span) → StaysIn f → SignedFits (bits_of own) s u (bits_of t)
    → is_enough own (end_by_end f (signed_numbers (bits_of own) s) (signed_numbers (bits_of own) u)) t ≡ true
signed-enough f own t s u stays (inl e) = enough-own own t (end_by_end f (signed_numbers (bits_of own) s) (signed_numbers (bits_of own) u)) e
signed-enough f own t s u stays (inr p) =
    let m = bits_of own in
    let both = and_parts (is_signed m s) (is_signed m u) p.0 in
    let same : end_by_end f (signed_numbers m s) (signed_numbers m u) ≡ end_by_end f s u =
    λ i. end_by_end f (cond-true (is_signed m s) s (signed_span m) both.0 i) (cond-true (is_signed m u) u (signed_span m) both.1 i) in
    subst (λ k. is_enough own k t ≡ true) (sym same) (elim p.1 [
      | inl e ↦ (let q = and_parts (is_signed (bits_of t) s) (is_signed (bits_of t) u) e in enough-signed own t (end_by_end f s u) (stays.signed (bits_of t) s u q.0 q.1))
      | inr e ↦ (let q = and_parts (is_unsigned (bits_of t) s) (is_unsigned (bits_of t) u) e in enough-unsigned own t (end_by_end f s u) (stays.unsigned (bits_of t) s u q.0 q.1))
    ])

-- the unsigned numbers of an operand whose span has unsigned numbers of t bits alone
value-unsigned : (m t : ℕ) (s : Span) → is_unsigned m s ≡ true → is_unsigned t s ≡ true → is_unsigned t (if is_unsigned m s then s else unsigned_span m) ≡ true
value-unsigned m t s e f = ap (is_unsigned t) (cond-true (is_unsigned m s) s (unsigned_span m) e) ∙ f

constant-unsigned : (m t n : ℕ) (z : ℤ) → Stands m (only z) n z → t ≤ m → is_unsigned t (only z) ≡ true → is_unsigned t (only (pos n)) ≡ true
constant-unsigned m t n z h l f =
    let p = natural m (only z) n z h t f in
    let is : n ≡ p.0 = sym h.residue ∙ natural-residue m p.0 z p.1 (below_wider p.0 t m p.2 l) in
    ap (λ k. is_unsigned t (only k)) (ap pos is ∙ sym p.1) ∙ f

pub operand-unsigned : (m t : ℕ) (spans : List Span) (numbers : ℕ → ℕ) (x : Wanted) (z : ℤ) → t ≤ m → Stands m (operand_span spans x) (number_of numbers x) z → IsOf x z
    → is_unsigned m (operand_span spans x) ≡ true → is_unsigned t (operand_span spans x) ≡ true → is_unsigned t (unsigned_numbers m spans x) ≡ true
operand-unsigned m t spans numbers (Value v) z l h o e f = value-unsigned m t (operand_span spans (Value v)) e f
operand-unsigned m t spans numbers (Constant k n) z l h o e f = constant-unsigned m t n (signed_at k n) (subst (λ y. Stands m (only (signed_at k n)) n y) o h) l f
operand-unsigned m t spans numbers Nothing z l h o e f = f

pub unsigned-enough : (f : ℤ → ℤ → ℤ) (own t : Width) (spans : List Span) (numbers : ℕ → ℕ) (x y : Wanted) (p q : ℤ) → StaysIn f → bits_of t ≤ bits_of own
    → Stands (bits_of own) (operand_span spans x) (number_of numbers x) p → IsOf x p → Stands (bits_of own) (operand_span spans y) (number_of numbers y) q → IsOf y q
    → UnsignedFits (bits_of own) (operand_span spans x) (operand_span spans y) (bits_of t)
    → is_enough own (end_by_end f (unsigned_numbers (bits_of own) spans x) (unsigned_numbers (bits_of own) spans y)) t ≡ true
unsigned-enough f own t spans numbers x y p q stays l h o k r (inl e) = enough-own own t (end_by_end f (unsigned_numbers (bits_of own) spans x) (unsigned_numbers (bits_of own) spans y)) e
unsigned-enough f own t spans numbers x y p q stays l h o k r (inr e) =
    let m = bits_of own in
    let whole = and_parts (is_unsigned m (operand_span spans x)) (is_unsigned m (operand_span spans y)) e.0 in
    let less = and_parts (is_unsigned (bits_of t) (operand_span spans x)) (is_unsigned (bits_of t) (operand_span spans y)) e.1 in
    enough-unsigned own t (end_by_end f (unsigned_numbers m spans x) (unsigned_numbers m spans y))
    (stays.unsigned (bits_of t) (unsigned_numbers m spans x) (unsigned_numbers m spans y)
    (operand-unsigned m (bits_of t) spans numbers x p l h o whole.0 less.0) (operand-unsigned m (bits_of t) spans numbers y q l k r whole.1 less.1))
