-- Numbers compare at a lesser width as they do at their own.
use Rattle.std.proofs.Common.{◌≡◌, ℕ, ◌%◌, ◌^◌, ◌<◌, ◌≤◌, ◌⊎◌, Bool, true, false, Option, Some, None, refl, sym, ap, ◌∙◌, arith, inl, inr}
use Rattle.std.specs.Prelude.{ℤ, pos, ◌&&◌, ◌||◌, nat_eq, nat_lt, int_lt}
use Rattle.std.proofs.lemmas.Bool.{and_parts, cases_Bool, eq-eqb, eqb-true, ltb-true}
use Rattle.vg_base.specs.Bits.{signed_at}
use Rattle.vg_base.specs.declared.width.Width.{Width}
use Rattle.vg_base.specs.declared.width.Width.TheVariants.{W8, W16, W32}
use Rattle.vg_base.specs.Width.{bits_of}
use Rattle.vg_base.specs.Number.{residue}
use Rattle.vg_base.proofs.LowBits.{below_wider, low-below}
use Rattle.vg_base.proofs.Signed.{residue_below}
use Rattle.vg_rewrite.specs.declared.choice.Compared.{Compared}
use Rattle.vg_rewrite.specs.declared.choice.Reading.{Reading}
use Rattle.vg_rewrite.specs.declared.choice.Reading.TheVariants.{Signed, Unsigned, Either}
use Rattle.vg_rewrite.specs.Choice.{both_signed, both_unsigned, compared, compared_at, compared_below, comparison_choice, if_then, or_compared}
use Rattle.vg_rewrite.proofs.FormRows.{then-or, then-some}
use Rattle.vg_rewrite.proofs.Stands.{back, natural, natural-residue, signed-is, Stands}
use Rattle.vg_scalar.specs.Scalar.{low, low_signed}
use Rattle.vg_spans.specs.declared.span.Span.{Span}
use Rattle.vg_spans.specs.Span.{is_signed, is_unsigned, signed_span}
use Rattle.vg_spans.proofs.Holding.{either}
use Rattle.vg_spans.proofs.Rows.{signed-wider, within-within}
use Rattle.vg_spans.proofs.Runs.{width-some}

-- whether one number of t bits is less than another by a reading; whether they are equal by either
abbrev pub is_less : Reading → ℕ → ℕ → ℕ → Bool
is_less Signed t a b = int_lt (low_signed t a) (low_signed t b)
is_less Unsigned t a b = nat_lt (low t a) (low t b)
is_less Either t a b = nat_eq (low t a) (low t b)

-- a reading tells which is less
abbrev pub is_order : Reading → Bool
is_order Signed = true
is_order Unsigned = true
is_order Either = false

itself : (w n : ℕ) → n < 2 ^ w → n % 2 ^ w ≡ n
itself w n l = let same : w ≤ w = omega arith in low-below n w w l same

module _ (m t : ℕ) (less : t < m) (some : 0 < t) where
  -- a number read back from t bits
  signed-form : (s : Span) (a : ℕ) (x : ℤ) → Stands m s a x → is_signed t s ≡ true → low_signed t (residue t x) ≡ x
  signed-form s a x h e = ap (signed_at t) (itself t (residue t x) (residue_below t x)) ∙ back m s a x h t some e

  signed-own : (s : Span) (a : ℕ) (x : ℤ) → Stands m s a x → is_signed m s ≡ true → low_signed m a ≡ x
  signed-own s a x h e = ap (signed_at m) (itself m a h.below) ∙ signed-is m s a x h e

  -- a number that is not negative and has t bits
  record IsNatural (a : ℕ) (x : ℤ) : Type 0 where
    form : low t (residue t x) ≡ a
    own : low m a ≡ a
    whole : x ≡ pos a

  natural-of : (s : Span) (a : ℕ) (x : ℤ) → Stands m s a x → is_unsigned t s ≡ true → IsNatural a x
  natural-of s a x h e =
      let n = natural m s a x h t e in
      let is : a ≡ n.0 = sym h.residue ∙ natural-residue m n.0 x n.1 (below_wider n.0 t m n.2 (omega arith)) in
      record {
        form = itself t (residue t x) (residue_below t x) ∙ natural-residue t n.0 x n.1 n.2 ∙ sym is;
        own = itself m a h.below;
        whole = n.1 ∙ ap pos (sym is);
      }

  less-signed : (s u : Span) (a b : ℕ) (x y : ℤ) → Stands m s a x → Stands m u b y → both_signed m s u ≡ true → both_signed t s u ≡ true
      → is_less Signed t (residue t x) (residue t y) ≡ is_less Signed m a b
  less-signed s u a b x y h k e f =
      let p = and_parts (is_signed m s) (is_signed m u) e in
      let q = and_parts (is_signed t s) (is_signed t u) f in
      λ i. int_lt ((signed-form s a x h q.0 ∙ sym (signed-own s a x h p.0)) i) ((signed-form u b y k q.1 ∙ sym (signed-own u b y k p.1)) i)

  less-natural : (s u : Span) (a b : ℕ) (x y : ℤ) → Stands m s a x → Stands m u b y → both_signed m s u ≡ true → both_unsigned t s u ≡ true
      → is_less Unsigned t (residue t x) (residue t y) ≡ is_less Signed m a b
  less-natural s u a b x y h k e f =
      let p = and_parts (is_signed m s) (is_signed m u) e in
      let q = and_parts (is_unsigned t s) (is_unsigned t u) f in
      let n = natural-of s a x h q.0 in
      let o = natural-of u b y k q.1 in
      (λ i. nat_lt (n.form i) (o.form i)) ∙ (λ i. int_lt (sym (signed-own s a x h p.0 ∙ n.whole) i) (sym (signed-own u b y k p.1 ∙ o.whole) i))

  less-unsigned : (s u : Span) (a b : ℕ) (x y : ℤ) → Stands m s a x → Stands m u b y → both_unsigned t s u ≡ true
      → is_less Unsigned t (residue t x) (residue t y) ≡ is_less Unsigned m a b
  less-unsigned s u a b x y h k f =
      let q = and_parts (is_unsigned t s) (is_unsigned t u) f in
      let n = natural-of s a x h q.0 in
      let o = natural-of u b y k q.1 in
      λ i. nat_lt ((n.form ∙ sym n.own) i) ((o.form ∙ sym o.own) i)

  equal-natural : (s u : Span) (a b : ℕ) (x y : ℤ) → Stands m s a x → Stands m u b y → both_unsigned t s u ≡ true
      → is_less Either t (residue t x) (residue t y) ≡ is_less Either m a b
  equal-natural s u a b x y h k f =
      let q = and_parts (is_unsigned t s) (is_unsigned t u) f in
      let n = natural-of s a x h q.0 in
      let o = natural-of u b y k q.1 in
      λ i. nat_eq ((n.form ∙ sym n.own) i) ((o.form ∙ sym o.own) i)

  -- numbers that two functions tell apart alike are equal alike
  equal-alike : (p q a b : ℕ) → (p ≡ q → a ≡ b) → (a ≡ b → p ≡ q) → nat_eq p q ≡ nat_eq a b
  equal-alike p q a b f g = elim (cases_Bool (nat_eq p q)) [
    | inl e ↦ e ∙ sym (eq-eqb a b (f (eqb-true p q e)))
    | inr e ↦ elim (cases_Bool (nat_eq a b)) [
      | inl d ↦ absurd (let c = eq-eqb p q (g (eqb-true a b d)) in cc)
      | inr d ↦ e ∙ sym d
    ]
  ]

  equal-signed : (s u : Span) (a b : ℕ) (x y : ℤ) → Stands m s a x → Stands m u b y → both_signed t s u ≡ true
      → is_less Either t (residue t x) (residue t y) ≡ is_less Either m a b
  equal-signed s u a b x y h k f =
      let q = and_parts (is_signed t s) (is_signed t u) f in
      let form-x = itself t (residue t x) (residue_below t x) in
      let form-y = itself t (residue t y) (residue_below t y) in
      let own-a = itself m a h.below in
      let own-b = itself m b k.below in
      let wide : is_signed m s ≡ true = wider s q.0 in
      let wide' : is_signed m u ≡ true = wider u q.1 in
      (λ i. nat_eq (form-x i) (form-y i))
      ∙ equal-alike (residue t x) (residue t y) a b
      (λ e. sym h.residue ∙ ap (residue m) (sym (back m s a x h t some q.0) ∙ ap (signed_at t) e ∙ back m u b y k t some q.1) ∙ k.residue)
      (λ e. ap (residue t) (sym (signed-is m s a x h wide) ∙ ap (signed_at m) e ∙ signed-is m u b y k wide'))
      ∙ (λ i. nat_eq (sym own-a i) (sym own-b i))
    where
      wider : (s : Span) → is_signed t s ≡ true → is_signed m s ≡ true
      wider s e = within-within s (signed_span t) (signed_span m) e (signed-wider t m (omega arith))

  compared-alike : (how r : Reading) (s u : Span) (a b : ℕ) (x y : ℤ) → Stands m s a x → Stands m u b y → compared_at how m s u t ≡ Some r
      → (is_less r t (residue t x) (residue t y) ≡ is_less how m a b) × (is_order how ≡ is_order r)
  compared-alike Signed r s u a b x y h k e =
      let o = then-some (both_signed m s u) (if_then (both_signed t s u) Signed (if_then (both_unsigned t s u) Unsigned None)) r e in
      elim (then-or (both_signed t s u) Signed (if_then (both_unsigned t s u) Unsigned None) r o.1) [
        | inl p ↦ (ap (λ v. is_less v t (residue t x) (residue t y)) (sym p.1) ∙ less-signed s u a b x y h k o.0 p.0, ap is_order p.1)
        | inr q ↦ elim (then-or (both_unsigned t s u) Unsigned None r q) [
          | inl p ↦ (ap (λ v. is_less v t (residue t x) (residue t y)) (sym p.1) ∙ less-natural s u a b x y h k o.0 p.0, ap is_order p.1)
          | inr p ↦ absurd (cc)
        ]
      ]
  compared-alike Unsigned r s u a b x y h k e =
      elim (then-or (both_unsigned m s u && both_unsigned t s u) Unsigned None r e) [
        | inl p ↦ (ap (λ v. is_less v t (residue t x) (residue t y)) (sym p.1) ∙ less-unsigned s u a b x y h k (and_parts (both_unsigned m s u) (both_unsigned t s u) p.0).1, ap is_order p.1)
        | inr p ↦ absurd (cc)
      ]
  compared-alike Either r s u a b x y h k e =
      elim (then-or (both_signed t s u || both_unsigned t s u) Either None r e) [
        | inl p ↦ (
          ap (λ v. is_less v t (residue t x) (residue t y)) (sym p.1) ∙ elim (cases_Bool (both_signed t s u)) [
            | inl c ↦ equal-signed s u a b x y h k c
            | inr c ↦ equal-natural s u a b x y h k (either (both_signed t s u) (both_unsigned t s u) p.0 c)
          ],
          ap is_order p.1,
        )
        | inr p ↦ absurd (cc)
      ]

-- ---- the choice

pub record IsAlike (how : Reading) (m a b : ℕ) (x y : ℤ) (c : Compared) : Type 0 where
  pub alike : is_less c.reading (bits_of c.width) (residue (bits_of c.width) x) (residue (bits_of c.width) y) ≡ is_less how m a b
  pub order : is_order how ≡ is_order c.reading
  pub most : bits_of c.width ≤ m

or-alike : (P : Compared → Type 0) (o : Option Reading) (t : Width) (e : Compared) → ((r : Reading) → o ≡ Some r → P (compared t r)) → P e → P (or_compared o t e)
or-alike P None t e f p = p
or-alike P (Some r) t e f p = f r refl

pub comparison-alike : (how : Reading) (own : Width) (s u : Span) (a b : ℕ) (x y : ℤ) → Stands (bits_of own) s a x → Stands (bits_of own) u b y → IsAlike how (bits_of own) a b x y (comparison_choice how own s u)
comparison-alike how own s u a b x y h k =
    let P : Compared → Type 0 = IsAlike how (bits_of own) a b x y in
    let last : P (compared own how) = record { alike = λ i. is_less how (bits_of own) (h.residue i) (k.residue i); order = refl; most = omega arith } in
    or-alike P (compared_below how own s u W8) W8 (or_compared (compared_below how own s u W16) W16 (or_compared (compared_below how own s u W32) W32 (compared own how))) (at W8)
    (or-alike P (compared_below how own s u W16) W16 (or_compared (compared_below how own s u W32) W32 (compared own how)) (at W16)
    (or-alike P (compared_below how own s u W32) W32 (compared own how) (at W32) last))
  where
    at : (t : Width) (r : Reading) → compared_below how own s u t ≡ Some r → IsAlike how (bits_of own) a b x y (compared t r)
    at t r e =
        let p = then-some (nat_lt (bits_of t) (bits_of own)) (compared_at how (bits_of own) s u (bits_of t)) r e in
        let less = ltb-true (bits_of t) (bits_of own) p.0 in
        let both = compared-alike (bits_of own) (bits_of t) less (width-some t) how r s u a b x y h k p.1 in
        record { alike = both.0; order = both.1; most = omega arith }

-- ---- what the spans are where a width below is chosen

abbrev pub SignedFits : ℕ → Span → Span → ℕ → Type 0
SignedFits m s u t = (t ≡ m) ⊎ ((both_signed m s u ≡ true) × ((both_signed t s u ≡ true) ⊎ (both_unsigned t s u ≡ true)))

pub signed-fits : (own : Width) (s u : Span) → SignedFits (bits_of own) s u (bits_of (comparison_choice Signed own s u).width)
signed-fits own s u =
    let P : Compared → Type 0 = λ c. SignedFits (bits_of own) s u (bits_of c.width) in
    or-alike P (compared_below Signed own s u W8) W8 (or_compared (compared_below Signed own s u W16) W16 (or_compared (compared_below Signed own s u W32) W32 (compared own Signed))) (at W8)
    (or-alike P (compared_below Signed own s u W16) W16 (or_compared (compared_below Signed own s u W32) W32 (compared own Signed)) (at W16)
    (or-alike P (compared_below Signed own s u W32) W32 (compared own Signed) (at W32) (inl refl)))
  where
    at : (t : Width) (r : Reading) → compared_below Signed own s u t ≡ Some r → SignedFits (bits_of own) s u (bits_of t)
    at t r e =
        let p = then-some (nat_lt (bits_of t) (bits_of own)) (compared_at Signed (bits_of own) s u (bits_of t)) r e in
        let o = then-some (both_signed (bits_of own) s u) (if_then (both_signed (bits_of t) s u) Signed (if_then (both_unsigned (bits_of t) s u) Unsigned None)) r p.1 in
        inr (
          o.0,
          elim (then-or (both_signed (bits_of t) s u) Signed (if_then (both_unsigned (bits_of t) s u) Unsigned None) r o.1) [
            | inl q ↦ inl q.0
            | inr q ↦ elim (then-or (both_unsigned (bits_of t) s u) Unsigned None r q) [
              | inl c ↦ inr c.0
              | inr c ↦ absurd (cc)
            ]
          ],
        )

abbrev pub UnsignedFits : ℕ → Span → Span → ℕ → Type 0
UnsignedFits m s u t = (t ≡ m) ⊎ ((both_unsigned m s u ≡ true) × (both_unsigned t s u ≡ true))

pub unsigned-fits : (own : Width) (s u : Span) → UnsignedFits (bits_of own) s u (bits_of (comparison_choice Unsigned own s u).width)
unsigned-fits own s u =
    let P : Compared → Type 0 = λ c. UnsignedFits (bits_of own) s u (bits_of c.width) in
    or-alike P (compared_below Unsigned own s u W8) W8 (or_compared (compared_below Unsigned own s u W16) W16 (or_compared (compared_below Unsigned own s u W32) W32 (compared own Unsigned))) (at W8)
    (or-alike P (compared_below Unsigned own s u W16) W16 (or_compared (compared_below Unsigned own s u W32) W32 (compared own Unsigned)) (at W16)
    (or-alike P (compared_below Unsigned own s u W32) W32 (compared own Unsigned) (at W32) (inl refl)))
  where
    at : (t : Width) (r : Reading) → compared_below Unsigned own s u t ≡ Some r → UnsignedFits (bits_of own) s u (bits_of t)
    at t r e =
        let p = then-some (nat_lt (bits_of t) (bits_of own)) (compared_at Unsigned (bits_of own) s u (bits_of t)) r e in
        elim (then-or (both_unsigned (bits_of own) s u && both_unsigned (bits_of t) s u) Unsigned None r p.1) [
          | inl q ↦ (let b = and_parts (both_unsigned (bits_of own) s u) (both_unsigned (bits_of t) s u) q.0 in inr (b.0, b.1))
          | inr q ↦ absurd (cc)
        ]
