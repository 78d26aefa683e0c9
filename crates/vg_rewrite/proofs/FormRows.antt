-- What forms make of numbers that are congruent to whole numbers, row by row.
use Rattle.std.proofs.Common.{◌≡◌, ℕ, ◌+◌, ◌-◌, ◌*◌, ◌/◌, ◌%◌, ◌^◌, ◌<◌, ◌≤◌, ◌⊎◌, Bool, true, false, Option, Some, None, refl, sym, ap, ◌∙◌, arith, inl, inr}
use Rattle.std.specs.Prelude.{ℤ, ◌+ℤ◌, ◌-ℤ◌, ◌*ℤ◌, ◌&&◌, bit_and, bit_or, bit_xor, nat_le, nat_lt, if◌then◌else◌}
use Rattle.std.proofs.lemmas.Bool.{and_parts, leb-true, ltb-true}
use Rattle.std.proofs.lemmas.Nat.{and_mod, mod_below, mul-mod, or_mod, pow-add, pow_pos, shr_le, xor_mod}
use Rattle.std.proofs.Math.Nat.{add-mul-mod_self_right, mod-eq_of_lt}
use Rattle.vg_base.specs.Bits.{signed_at}
use Rattle.vg_base.specs.declared.width.Width.{Width}
use Rattle.vg_base.specs.declared.width.Width.TheVariants.{W8, W16, W32}
use Rattle.vg_base.specs.Width.{bits_of}
use Rattle.vg_base.specs.Number.{floor_shift, residue}
use Rattle.vg_base.proofs.LowBits.{below_wider, low-below, low-low}
use Rattle.vg_base.proofs.Signed.{residue-add, residue-low, residue-mul, residue_below}
use Rattle.vg_rewrite.specs.declared.choice.Shifted.{Shifted}
use Rattle.vg_rewrite.specs.Choice.{if_then, low_shift, or_shift, shift_at, shift_between, shift_choice, shifted}
use Rattle.vg_rewrite.proofs.Stands.{back, low-residue, natural, natural-residue, signed-is, Stands}
use Rattle.vg_scalar.specs.declared.shift.Shift.{Shift}
use Rattle.vg_scalar.specs.declared.shift.Shift.TheVariants.{Shl, Lshr, Ashr}
use Rattle.vg_scalar.specs.declared.two_op.TwoOp.{TwoOp}
use Rattle.vg_scalar.specs.declared.two_op.TwoOp.TheVariants.{Add, Sub, Mul, And, Or, Xor, Smin, Smax, Umin, Umax}
use Rattle.vg_scalar.specs.Scalar.{shift_result, two_result}
use Rattle.vg_spans.specs.declared.span.Span.{Span}
use Rattle.vg_spans.specs.Span.{is_signed, is_unsigned}
use Rattle.vg_spans.proofs.Rows.{residue-sub}
use Rattle.vg_spans.proofs.Runs.{width-some}
use Rattle.vg_terms.proofs.Narrow.{low-mul}
use Rattle.vg_terms.proofs.Shifts.{low_of_shift, low_of_signed_shift}

-- ---- operations on low bits

abbrev pub is_low : TwoOp → Bool
is_low Add = true
is_low Sub = true
is_low Mul = true
is_low And = true
is_low Or = true
is_low Xor = true
is_low Smin = false
is_low Smax = false
is_low Umin = false
is_low Umax = false

itself : (w n : ℕ) → n < 2 ^ w → n % 2 ^ w ≡ n
itself w n l = let same : w ≤ w = omega arith in low-below n w w l same

-- the low bits of a form's number
part : (m w a : ℕ) (s : Span) (z : ℤ) → Stands m s a z → w ≤ m → residue w z % 2 ^ w ≡ a % 2 ^ w
part m w a s z h l = itself w (residue w z) (residue_below w z) ∙ sym (low-residue m s a z h w l)

pub low-operation : (op : TwoOp) (m w a b : ℕ) (s t : Span) (x y : ℤ) → is_low op ≡ true → Stands m s a x → Stands m t b y → w ≤ m → two_result op w (residue w x) (residue w y) ≡ two_result op m a b % 2 ^ w
low-operation Add m w a b s t x y c h k l =
    sym (residue-add w x y) ∙ sym (residue-low m w (x +ℤ y) l) ∙ ap (λ v. v % 2 ^ w) (residue-add m x y ∙ (λ i. (h.residue i + k.residue i) % 2 ^ m))
low-operation Sub m w a b s t x y c h k l =
    ap (λ v. (residue w x + (2 ^ w - v)) % 2 ^ w) (itself w (residue w y) (residue_below w y)) ∙ sym (residue-sub w x y) ∙ sym (residue-low m w (x -ℤ y) l)
    ∙ ap (λ v. v % 2 ^ w) (residue-sub m x y ∙ (λ i. (h.residue i + (2 ^ m - (k.residue ∙ sym (itself m b k.below)) i)) % 2 ^ m))
low-operation Mul m w a b s t x y c h k l =
    sym (residue-mul w x y) ∙ sym (residue-low m w (x *ℤ y) l) ∙ ap (λ v. v % 2 ^ w) (residue-mul m x y ∙ (λ i. (h.residue i * k.residue i) % 2 ^ m))
low-operation And m w a b s t x y c h k l =
    (λ i. bit_and (part m w a s x h l i) (part m w b t y k l i)) ∙ sym (and_mod a b w) ∙ (λ i. bit_and (sym (itself m a h.below) i) (sym (itself m b k.below) i) % 2 ^ w)
low-operation Or m w a b s t x y c h k l =
    (λ i. bit_or (part m w a s x h l i) (part m w b t y k l i)) ∙ sym (or_mod a b w) ∙ (λ i. bit_or (sym (itself m a h.below) i) (sym (itself m b k.below) i) % 2 ^ w)
low-operation Xor m w a b s t x y c h k l =
    (λ i. bit_xor (part m w a s x h l i) (part m w b t y k l i)) ∙ sym (xor_mod a b w) ∙ (λ i. bit_xor (sym (itself m a h.below) i) (sym (itself m b k.below) i) % 2 ^ w)
low-operation Smin m w a b s t x y c h k l = absurd (cc)
low-operation Smax m w a b s t x y c h k l = absurd (cc)
low-operation Umin m w a b s t x y c h k l = absurd (cc)
low-operation Umax m w a b s t x y c h k l = absurd (cc)

-- ---- shifts to the left

pub left-shift : (m w k a : ℕ) (s : Span) (x : ℤ) → Stands m s a x → w ≤ m → (residue w x * 2 ^ k) % 2 ^ w ≡ (a * 2 ^ k) % 2 ^ m % 2 ^ w
left-shift m w k a s x h l =
    mul-mod (residue w x) (2 ^ k) (2 ^ w) ∙ ap (λ v. (v * (2 ^ k % 2 ^ w)) % 2 ^ w) (part m w a s x h l) ∙ sym (low-mul m w a (2 ^ k) l)

pub left-past : (m w k a : ℕ) → w ≤ m → w ≤ k → 0 ≡ (a * 2 ^ k) % 2 ^ m % 2 ^ w
left-past m w k a l past =
    let e : (k - w) + w ≡ k = omega arith in
    let power : 2 ^ k ≡ 2 ^ (k - w) * 2 ^ w = ap (λ v. 2 ^ v) (sym e) ∙ pow-add 2 (k - w) w in
    let flat : a * (2 ^ (k - w) * 2 ^ w) ≡ 0 + (a * 2 ^ (k - w)) * 2 ^ w = grind arith in
    sym (low-low (a * 2 ^ k) m w l ∙ ap (λ v. (a * v) % 2 ^ w) power ∙ ap (λ v. v % 2 ^ w) flat ∙ add-mul-mod_self_right 0 (a * 2 ^ (k - w)) (2 ^ w) ∙ mod-eq_of_lt (pow_pos w))

-- ---- shifts to the right

shift-small : (op : Shift) (t k n : ℕ) → shift_result op t k n < 2 ^ t
shift-small Shl t k n = mod_below (n * 2 ^ k) (2 ^ t) (pow_pos t)
shift-small Lshr t k n = let l = mod_below n (2 ^ t) (pow_pos t) in omega (arith, shr_le (n % 2 ^ t) k)
shift-small Ashr t k n = residue_below t (floor_shift (signed_at t (n % 2 ^ t)) k)

-- a shift of the form at its width has the low bits of that of the number
pub record IsRight (op : Shift) (m k a : ℕ) (z : ℤ) (w : ℕ) (c : Shifted) : Type 0 where
  pub wide : w ≤ bits_of c.width
  pub low : shift_result c.op (bits_of c.width) k (residue (bits_of c.width) z) % 2 ^ w ≡ shift_result op m k a % 2 ^ w
  pub small : shift_result c.op (bits_of c.width) k (residue (bits_of c.width) z) < 2 ^ bits_of c.width

pub then-or : {A : Type 0} (b : Bool) (x : A) (o : Option A) (y : A) → if_then b x o ≡ Some y → ((b ≡ true) × (x ≡ y)) ⊎ (o ≡ Some y)
then-or true x o y e = inl (refl, cc)
then-or false x o y e = inr e

pub then-some : {A : Type 0} (b : Bool) (o : Option A) (y : A) → (if b then o else None) ≡ Some y → (b ≡ true) × (o ≡ Some y)
then-some true o y e = (refl, e)
then-some false o y e = absurd (cc)

or-right : (P : Shifted → Type 0) (o : Option Shift) (t : Width) (e : Shifted) → ((op : Shift) → o ≡ Some op → P (shifted t op)) → P e → P (or_shift o t e)
or-right P None t e f p = p
or-right P (Some op) t e f p = f op refl

module _ (m : ℕ) (s : Span) (a : ℕ) (z : ℤ) (h : Stands m s a z) (k w t : ℕ) (wide : w ≤ t) (less : t < m) where
  unsigned-right : is_unsigned t s ≡ true → (residue t z % 2 ^ t) / 2 ^ k ≡ a / 2 ^ k
  unsigned-right e =
      let n = natural m s a z h t e in
      let r = natural-residue t n.0 z n.1 n.2 in
      let whole : a ≡ n.0 = sym h.residue ∙ natural-residue m n.0 z n.1 (below_wider n.0 t m n.2 (omega arith)) in
      ap (λ v. v / 2 ^ k) (itself t (residue t z) (residue_below t z) ∙ r ∙ sym whole)

  low-right : k + w ≤ t → (residue t z % 2 ^ t) / 2 ^ k % 2 ^ w ≡ a / 2 ^ k % 2 ^ w
  low-right l =
      let within : t ≤ m = omega arith in
      ap (λ v. v / 2 ^ k % 2 ^ w) (part m t a s z h within)
      ∙ low_of_shift w k (a % 2 ^ t) ∙ ap (λ v. v / 2 ^ k) (low-low a t (w + k) (omega arith)) ∙ sym (low_of_shift w k a)

  lshr-right : (op : Shift) → shift_at Lshr k m s w t ≡ Some op → shift_result op t k (residue t z) % 2 ^ w ≡ (a % 2 ^ m) / 2 ^ k % 2 ^ w
  lshr-right op e = elim (then-or (is_unsigned m s && (is_unsigned t s && nat_lt k t)) Lshr (low_shift k w t) op e) [
    | inl p ↦
        let both = and_parts (is_unsigned t s) (nat_lt k t) (and_parts (is_unsigned m s) (is_unsigned t s && nat_lt k t) p.0).1 in
        ap (λ o. shift_result o t k (residue t z) % 2 ^ w) (sym p.1) ∙ ap (λ v. v % 2 ^ w) (unsigned-right both.0) ∙ ap (λ v. v / 2 ^ k % 2 ^ w) (sym (itself m a h.below))
    | inr q ↦
        elim (then-or (nat_le (k + w) t) Lshr None op q) [
          | inl p ↦ ap (λ o. shift_result o t k (residue t z) % 2 ^ w) (sym p.1) ∙ low-right (leb-true (k + w) t p.0) ∙ ap (λ v. v / 2 ^ k % 2 ^ w) (sym (itself m a h.below))
          | inr p ↦ absurd (cc)
        ]
  ]

  same-signed : is_signed m s ≡ true → signed_at m (a % 2 ^ m) ≡ z
  same-signed e = ap (signed_at m) (itself m a h.below) ∙ signed-is m s a z h e

  -- of a number that is not negative, shifted signed
  natural-right : is_signed m s ≡ true → is_unsigned t s ≡ true → residue m (floor_shift (signed_at m (a % 2 ^ m)) k) ≡ a / 2 ^ k
  natural-right e f =
      let n = natural m s a z h t f in
      let below : n.0 < 2 ^ m = below_wider n.0 t m n.2 (omega arith) in
      let whole : a ≡ n.0 = sym h.residue ∙ natural-residue m n.0 z n.1 below in
      let small : n.0 / 2 ^ k < 2 ^ m = omega (arith, shr_le n.0 k) in
      ap (λ v. residue m (floor_shift v k)) (same-signed e ∙ n.1) ∙ itself m (n.0 / 2 ^ k) small ∙ ap (λ v. v / 2 ^ k) (sym whole)

  signed-right : is_signed m s ≡ true → is_signed t s ≡ true → 0 < t
      → residue t (floor_shift (signed_at t (residue t z % 2 ^ t)) k) % 2 ^ w ≡ residue m (floor_shift (signed_at m (a % 2 ^ m)) k) % 2 ^ w
  signed-right e f some =
      let at : signed_at t (residue t z % 2 ^ t) ≡ z = ap (signed_at t) (itself t (residue t z) (residue_below t z)) ∙ back m s a z h t some f in
      let more : w ≤ m = omega arith in
      ap (λ v. residue t (floor_shift v k) % 2 ^ w) at ∙ residue-low t w (floor_shift z k) wide
      ∙ sym (ap (λ v. residue m (floor_shift v k) % 2 ^ w) (same-signed e) ∙ residue-low m w (floor_shift z k) more)

  ashr-right : (op : Shift) → 0 < t → shift_at Ashr k m s w t ≡ Some op → shift_result op t k (residue t z) % 2 ^ w ≡ residue m (floor_shift (signed_at m (a % 2 ^ m)) k) % 2 ^ w
  ashr-right op some e = elim (then-or (is_signed m s && (is_unsigned t s && nat_lt k t)) Lshr (if_then (is_signed m s && (is_signed t s && nat_lt k t)) Ashr (low_shift k w t)) op e) [
    | inl p ↦
        let own = and_parts (is_signed m s) (is_unsigned t s && nat_lt k t) p.0 in
        let both = and_parts (is_unsigned t s) (nat_lt k t) own.1 in
        ap (λ o. shift_result o t k (residue t z) % 2 ^ w) (sym p.1) ∙ ap (λ v. v % 2 ^ w) (unsigned-right both.0 ∙ sym (natural-right own.0 both.0))
    | inr q ↦
        elim (then-or (is_signed m s && (is_signed t s && nat_lt k t)) Ashr (low_shift k w t) op q) [
          | inl p ↦
              let own = and_parts (is_signed m s) (is_signed t s && nat_lt k t) p.0 in
              let both = and_parts (is_signed t s) (nat_lt k t) own.1 in
              ap (λ o. shift_result o t k (residue t z) % 2 ^ w) (sym p.1) ∙ signed-right own.0 both.0 some
          | inr r ↦
              elim (then-or (nat_le (k + w) t) Lshr None op r) [
                | inl p ↦
                    let l = leb-true (k + w) t p.0 in
                    ap (λ o. shift_result o t k (residue t z) % 2 ^ w) (sym p.1) ∙ low-right l
                    ∙ sym (ap (λ v. residue m (floor_shift (signed_at m v) k) % 2 ^ w) (itself m a h.below) ∙ low_of_signed_shift m w k a (omega arith) h.below)
                | inr p ↦ absurd (cc)
              ]
        ]
  ]

  right-at : (op o : Shift) → 0 < t → shift_at op k m s w t ≡ Some o → shift_result o t k (residue t z) % 2 ^ w ≡ shift_result op m k a % 2 ^ w
  right-at Shl o some e = absurd (cc)
  right-at Lshr o some e = lshr-right o e
  right-at Ashr o some e = ashr-right o some e

pub right-choice : (op : Shift) (own w : Width) (k a : ℕ) (s : Span) (z : ℤ) → Stands (bits_of own) s a z → bits_of w ≤ bits_of own → IsRight op (bits_of own) k a z (bits_of w) (shift_choice op k own s w)
right-choice op own w k a s z h l =
    let P : Shifted → Type 0 = IsRight op (bits_of own) k a z (bits_of w) in
    let last : P (shifted own op) = record {
      wide = l;
      low = ap (λ v. shift_result op (bits_of own) k v % 2 ^ bits_of w) h.residue;
      small = shift-small op (bits_of own) k (residue (bits_of own) z);
    } in
    or-right P (shift_between op k own s w W8) W8 (or_shift (shift_between op k own s w W16) W16 (or_shift (shift_between op k own s w W32) W32 (shifted own op))) (at W8)
    (or-right P (shift_between op k own s w W16) W16 (or_shift (shift_between op k own s w W32) W32 (shifted own op)) (at W16)
    (or-right P (shift_between op k own s w W32) W32 (shifted own op) (at W32) last))
  where
    at : (t : Width) (o : Shift) → shift_between op k own s w t ≡ Some o → IsRight op (bits_of own) k a z (bits_of w) (shifted t o)
    at t o e =
        let p = then-some (nat_le (bits_of w) (bits_of t) && nat_lt (bits_of t) (bits_of own)) (shift_at op k (bits_of own) s (bits_of w) (bits_of t)) o e in
        let both = and_parts (nat_le (bits_of w) (bits_of t)) (nat_lt (bits_of t) (bits_of own)) p.0 in
        let wide = leb-true (bits_of w) (bits_of t) both.0 in
        record {
          wide = wide;
          low = right-at (bits_of own) s a z h k (bits_of w) (bits_of t) wide (ltb-true (bits_of t) (bits_of own) both.1) op o (width-some t) p.1;
          small = shift-small o (bits_of t) k (residue (bits_of t) z);
        }
