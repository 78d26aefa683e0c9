-- The known widths of a term are true in every environment: each row is true for any true widths of the children.
use Rattle.std.proofs.Common.{◌≡◌, ℕ, ◌+◌, ◌-◌, ◌*◌, ◌/◌, ◌%◌, ◌^◌, ◌<◌, ◌≤◌, Bool, [], refl, sym, ap, ◌∙◌, subst, arith, mul_comm, add_comm}
use Rattle.std.specs.Prelude.{ℤ, pos, negsuc, ◌+ℤ◌, ◌*ℤ◌, min, max, nat_lt, nat_eq, int_lt, if◌then◌else◌, bit_and, bit_or, bit_xor}
use Rattle.std.proofs.lemmas.Bool.{ltb-true, cond_both}
use Rattle.std.proofs.lemmas.Nat.{pow-add, mul-lt, and_le_l, and_le_r, or_lt, xor_lt, pow_below, leading_length}
use Rattle.std.proofs.Math.Nat.{mod-le, mod-eq_of_lt}
use Rattle.vg_base.specs.Bits.{signed_at}
use Rattle.vg_terms.specs.declared.term.OneOp.{OneOp}
use Rattle.vg_terms.specs.declared.term.OneOp.TheVariants.{Zext, Sext, Trunc, Lshr, Ashr}
use Rattle.vg_terms.specs.declared.term.TwoOp.{TwoOp}
use Rattle.vg_terms.specs.declared.term.TwoOp.TheVariants.{Add, Mul, And, Or, Xor, Smin, Smax, Umin, Umax, Eq, Slt, Ult, Cat}
use Rattle.vg_terms.specs.declared.known.Known.{Known}
use Rattle.vg_terms.specs.declared.value.Env.{Env}
use Rattle.vg_terms.specs.Term.{Tree, leaf, constant, one, two, sel, width_of, IsWidth, OneFits, TwoFits, WellFormed}
use Rattle.vg_base.specs.Number.{residue, floor_shift, magnitude}
use Rattle.vg_terms.specs.Value.{one_value, two_value, value}
use Rattle.vg_terms.specs.Known.{IsKnown, digits, known_at, cut_to, one_known, product_signed, two_known, known}
use Rattle.vg_base.proofs.LowBits.{below_wider, above_below, extend-low, shift-low}
use Rattle.vg_terms.proofs.Values.{one-below, two-below, value-below}
use Rattle.vg_base.proofs.Signed.{residue_below, residue-add, residue-mul, residue-low, residue-signed, signed-within, residue-within, magnitude-add, magnitude-mul, magnitude-mul_pos}
use Rattle.vg_terms.proofs.Bounds.{below-min, within-min, within_wider, unsigned-within, shifted-below, shifted-within, IsBitwise, and_bitwise, or_bitwise, xor_bitwise, bits-within, above-within}

-- greater widths are true too
pub weaker : (w v : ℕ) (k : Known) (u s : ℕ) → IsKnown w v k → k.unsigned ≤ u → k.signed ≤ s → IsKnown w v (known_at u s)
weaker w v k u s h p q = record {
  some_unsigned = omega (arith, h.some_unsigned);
  some_signed = omega (arith, h.some_signed);
  below = below_wider v k.unsigned u h.below p;
  within = within_wider _ k.signed s h.within q;
}

-- the width itself is true
pub full : (w v : ℕ) → 0 < w → v < 2 ^ w → IsKnown w v (known_at w w)
full w v h b = record { some_unsigned = h; some_signed = h; below = b; within = signed-within w v h b }

-- what is true stays true when it is cut
pub cut-known : (w v : ℕ) (k : Known) → 0 < w → v < 2 ^ w → IsKnown w v k → IsKnown w v (cut_to w k)
cut-known w v k h b t =
    let below : v < 2 ^ min k.unsigned w = below-min v k.unsigned w t.below b in
    let e : min k.unsigned w ≡ min k.unsigned w + 1 - 1 = omega arith in
    let one_more : magnitude (signed_at w v) < 2 ^ (min k.unsigned w + 1 - 1) = subst (λ n. magnitude (signed_at w v) < 2 ^ n) e (unsigned-within w v (min k.unsigned w) h b below) in
    record {
      some_unsigned = omega (arith, t.some_unsigned);
      some_signed = omega (arith, t.some_signed);
      below = below;
      within = within-min _ (min k.signed w) (min k.unsigned w + 1) (within-min _ k.signed w t.within (signed-within w v h b)) one_more;
    }

zext_known : (w m v : ℕ) (x : Known) → 0 < w → m < w → v < 2 ^ m → IsKnown m v x → IsKnown w v (known_at x.unsigned (x.unsigned + 1))
zext_known w m v x h l b t =
    let less : m ≤ w = omega arith in
    let e : x.unsigned ≡ x.unsigned + 1 - 1 = omega arith in
    record {
      some_unsigned = t.some_unsigned;
      some_signed = omega arith;
      below = t.below;
      within = subst (λ n. magnitude (signed_at w v) < 2 ^ n) e (unsigned-within w v x.unsigned h (below_wider v m w b less) t.below);
    }

sext_known : (w m v : ℕ) (x : Known) → 0 < w → m < w → v < 2 ^ m → IsKnown m v x → IsKnown w (residue w (signed_at m v)) (known_at (if nat_lt x.unsigned m then x.unsigned else w) x.signed)
sext_known w m v x h l b t =
    let r = residue w (signed_at m v) in
    record {
      some_unsigned = cond_both (nat_lt x.unsigned m) x.unsigned w (λ n. 0 < n) (λ _. t.some_unsigned) (λ _. h);
      some_signed = t.some_signed;
      below = cond_both (nat_lt x.unsigned m) x.unsigned w (λ n. r < 2 ^ n) (λ c. let few : x.unsigned ≤ m - 1 = omega (arith, ltb-true x.unsigned m c) in let low = below_wider v x.unsigned (m - 1) t.below few in subst (λ n. n < 2 ^ x.unsigned) (sym (extend-low w m v low l)) t.below) (λ _. residue_below w (signed_at m v));
      within = residue-within w x.signed (signed_at m v) h t.within;
    }

trunc_known : (w m v : ℕ) (x : Known) → 0 < w → w < m → v < 2 ^ m → IsKnown m v x → IsKnown w (v % 2 ^ w) x
trunc_known w m v x h l b t =
    let less : w ≤ m = omega arith in
    let e : v % 2 ^ w ≡ residue w (signed_at m v) = ap (λ n. n % 2 ^ w) (sym (residue-signed m v b)) ∙ residue-low m w (signed_at m v) less in
    record {
      some_unsigned = t.some_unsigned;
      some_signed = t.some_signed;
      below = omega (arith, mod-le v (2 ^ w), t.below);
      within = subst (λ n. magnitude (signed_at w n) < 2 ^ (x.signed - 1)) (sym e) (residue-within w x.signed (signed_at m v) h t.within);
    }

lshr_known : (w k v : ℕ) (x : Known) → 0 < w → v / 2 ^ k < 2 ^ w → IsKnown w v x → IsKnown w (v / 2 ^ k) (known_at (max 1 (x.unsigned - k)) w)
lshr_known w k v x h b t = record {
  some_unsigned = omega arith;
  some_signed = h;
  below = shifted-below v x.unsigned k t.below;
  within = signed-within w (v / 2 ^ k) h b;
}

magnitude-shift : (z : ℤ) (k : ℕ) → magnitude (floor_shift z k) ≡ magnitude z / 2 ^ k
magnitude-shift (pos n) k = refl
magnitude-shift (negsuc n) k = refl

ashr_known : (w k v : ℕ) (x : Known) → 0 < w → v < 2 ^ w → IsKnown w v x → IsKnown w (residue w (floor_shift (signed_at w v) k)) (known_at (if nat_lt x.unsigned w then max 1 (x.unsigned - k) else w) (max 1 (x.signed - k)))
ashr_known w k v x h b t =
    let z = floor_shift (signed_at w v) k in
    let m = max 1 (x.unsigned - k) in
    record {
      some_unsigned = cond_both (nat_lt x.unsigned w) m w (λ n. 0 < n) (λ _. omega arith) (λ _. h);
      some_signed = omega arith;
      below = cond_both (nat_lt x.unsigned w) m w (λ n. residue w z < 2 ^ n) (λ c. let few : x.unsigned ≤ w - 1 = omega (arith, ltb-true x.unsigned w c) in let low = below_wider v x.unsigned (w - 1) t.below few in subst (λ n. n < 2 ^ m) (sym (shift-low w k v low)) (shifted-below v x.unsigned k t.below)) (λ _. residue_below w z);
      within = residue-within w (max 1 (x.signed - k)) z h (subst (λ n. n < 2 ^ (max 1 (x.signed - k) - 1)) (sym (magnitude-shift (signed_at w v) k)) (shifted-within _ x.signed k t.some_signed t.within));
    }

pub one-known : (op : OneOp) (w k m v : ℕ) (x : Known) → 0 < w → OneFits op w k m → v < 2 ^ m → IsKnown m v x → IsKnown w (one_value op w k m v) (one_known op w k m x)
one-known Zext w k m v x h f b t = zext_known w m v x h f.0 b t
one-known Sext w k m v x h f b t = sext_known w m v x h f.0 b t
one-known Trunc w k m v x h f b t = trunc_known w m v x h f.0 b t
one-known Lshr w k m v x h f b t = lshr_known w k v x h (one-below Lshr w k m v f b) (subst (λ n. IsKnown n v x) f.0 t)
one-known Ashr w k m v x h f b t =
    subst (λ n. IsKnown w (residue w (floor_shift (signed_at n v) k)) (one_known Ashr w k n x)) (sym f.0) (ashr_known w k v x h (subst (λ n. v < 2 ^ n) f.0 b) (subst (λ n. IsKnown n v x) f.0 t))

add_known : (w a b : ℕ) (x y : Known) → 0 < w → a < 2 ^ w → b < 2 ^ w → IsKnown w a x → IsKnown w b y → IsKnown w ((a + b) % 2 ^ w) (known_at (max x.unsigned y.unsigned + 1) (max x.signed y.signed + 1))
add_known w a b x y h p q s t =
    let u = max x.unsigned y.unsigned in
    let r = max x.signed y.signed in
    let ux : x.unsigned ≤ u = omega arith in
    let uy : y.unsigned ≤ u = omega arith in
    let rx : x.signed ≤ r = omega arith in
    let ry : y.signed ≤ r = omega arith in
    let za = signed_at w a in
    let zb = signed_at w b in
    let e : residue w (za +ℤ zb) ≡ (a + b) % 2 ^ w = residue-add w za zb ∙ ap (λ n. (n + residue w zb) % 2 ^ w) (residue-signed w a p) ∙ ap (λ n. (a + n) % 2 ^ w) (residue-signed w b q) in
    let wider = magnitude-add za zb (2 ^ (r - 1)) (within_wider _ x.signed r s.within rx) (within_wider _ y.signed r t.within ry) in
    let some : 0 < r = omega (arith, s.some_signed) in
    let step : (r - 1) + 1 ≡ r + 1 - 1 = omega arith in
    let double : 2 ^ (r - 1) + 2 ^ (r - 1) ≡ 2 ^ (r + 1 - 1) = subst (λ n. 2 ^ (r - 1) + 2 ^ (r - 1) ≡ 2 ^ n) step (omega (arith, pow-add 2 (r - 1) 1)) in
    record {
      some_unsigned = omega arith;
      some_signed = omega arith;
      below = omega (arith, mod-le (a + b) (2 ^ w), below_wider a x.unsigned u s.below ux, below_wider b y.unsigned u t.below uy, pow-add 2 u 1);
      within = subst (λ n. magnitude (signed_at w n) < 2 ^ (r + 1 - 1)) e (residue-within w (r + 1) (za +ℤ zb) h (subst (λ n. magnitude (za +ℤ zb) < n) double wider));
    }

-- a product with a number read unsigned
mixed_within : (w a b s u : ℕ) → 0 < w → a < 2 ^ w → b < 2 ^ w → 0 < s → magnitude (signed_at w a) < 2 ^ (s - 1) → b < 2 ^ u → magnitude (signed_at w ((a * b) % 2 ^ w)) < 2 ^ (s + u - 1)
mixed_within w a b s u h p q some m l =
    let za = signed_at w a in
    let same : w ≤ w = omega arith in
    let e : residue w (za *ℤ pos b) ≡ (a * b) % 2 ^ w = residue-mul w za (pos b) ∙ ap (λ n. (n * (b % 2 ^ w)) % 2 ^ w) (residue-signed w a p) ∙ ap (λ n. (a * n) % 2 ^ w) (mod-eq_of_lt q) in
    let sum : (s - 1) + u ≡ s + u - 1 = omega arith in
    let product : 2 ^ (s - 1) * 2 ^ u ≡ 2 ^ (s + u - 1) = subst (λ n. 2 ^ (s - 1) * 2 ^ u ≡ 2 ^ n) sum (sym (pow-add 2 (s - 1) u)) in
    subst (λ n. magnitude (signed_at w n) < 2 ^ (s + u - 1)) e (residue-within w (s + u) (za *ℤ pos b) h (subst (λ n. magnitude (za *ℤ pos b) < n) product (magnitude-mul_pos za b (2 ^ (s - 1)) (2 ^ u) m l)))

product_within : (w a b s r : ℕ) → 0 < w → a < 2 ^ w → b < 2 ^ w → 0 < s → 0 < r → magnitude (signed_at w a) < 2 ^ (s - 1) → magnitude (signed_at w b) < 2 ^ (r - 1) → magnitude (signed_at w ((a * b) % 2 ^ w)) < 2 ^ (s + r - 1)
product_within w a b s r h p q some more m l =
    let za = signed_at w a in
    let zb = signed_at w b in
    let e : residue w (za *ℤ zb) ≡ (a * b) % 2 ^ w = residue-mul w za zb ∙ ap (λ n. (n * residue w zb) % 2 ^ w) (residue-signed w a p) ∙ ap (λ n. (a * n) % 2 ^ w) (residue-signed w b q) in
    let sum : (s - 1) + (r - 1) < s + r - 1 = omega arith in
    let below : 2 ^ (s - 1) * 2 ^ (r - 1) < 2 ^ (s + r - 1) = subst (λ n. n < 2 ^ (s + r - 1)) (pow-add 2 (s - 1) (r - 1)) (pow_below ((s - 1) + (r - 1)) (s + r - 1) sum) in
    subst (λ n. magnitude (signed_at w n) < 2 ^ (s + r - 1)) e (residue-within w (s + r) (za *ℤ zb) h (magnitude-mul za zb (2 ^ (s - 1)) (2 ^ (r - 1)) (2 ^ (s + r - 1)) m l below))

mul_known : (w a b : ℕ) (x y : Known) → 0 < w → a < 2 ^ w → b < 2 ^ w → IsKnown w a x → IsKnown w b y → IsKnown w ((a * b) % 2 ^ w) (known_at (x.unsigned + y.unsigned) (product_signed x y))
mul_known w a b x y h p q s t =
    let turned : magnitude (signed_at w ((a * b) % 2 ^ w)) < 2 ^ (x.unsigned + y.signed - 1) = subst (λ n. magnitude (signed_at w (n % 2 ^ w)) < 2 ^ (x.unsigned + y.signed - 1)) (mul_comm b a) (subst (λ n. magnitude (signed_at w ((b * a) % 2 ^ w)) < 2 ^ (n - 1)) (add_comm y.signed x.unsigned) (mixed_within w b a y.signed x.unsigned h q p t.some_signed t.within s.below)) in
    record {
      some_unsigned = omega (arith, s.some_unsigned);
      some_signed = omega (arith, s.some_signed, s.some_unsigned, t.some_signed);
      below = omega (arith, mod-le (a * b) (2 ^ w), mul-lt a b (2 ^ x.unsigned) (2 ^ y.unsigned) s.below t.below, pow-add 2 x.unsigned y.unsigned);
      within = within-min _ (x.signed + y.signed) (min (x.signed + y.unsigned) (x.unsigned + y.signed)) (product_within w a b x.signed y.signed h p q s.some_signed t.some_signed s.within t.within) (within-min _ (x.signed + y.unsigned) (x.unsigned + y.signed) (mixed_within w a b x.signed y.unsigned h p q s.some_signed s.within t.below) turned);
    }

-- an operation bit by bit, with any bound for its unsigned number
bits_known : (f : ℕ → ℕ → ℕ) (w a b u : ℕ) (x y : Known) → IsBitwise f → 0 < w → a < 2 ^ w → b < 2 ^ w → f a b < 2 ^ w → 0 < u → f a b < 2 ^ u → IsKnown w a x → IsKnown w b y → IsKnown w (f a b) (known_at u (max x.signed y.signed))
bits_known f w a b u x y c h p q r some low s t =
    let m = max x.signed y.signed in
    let mx : x.signed ≤ m = omega arith in
    let my : y.signed ≤ m = omega arith in
    let m_some : 0 < m = omega (arith, s.some_signed) in
    record {
      some_unsigned = some;
      some_signed = m_some;
      below = low;
      within = bits-within f w a b m c h m_some p q r (within_wider _ x.signed m s.within mx) (within_wider _ y.signed m t.within my);
    }

-- one of two numbers
pub either_known : (b : Bool) (w p q : ℕ) (x y : Known) → IsKnown w p x → IsKnown w q y → IsKnown w (if b then p else q) (known_at (max x.unsigned y.unsigned) (max x.signed y.signed))
either_known b w p q x y s t =
    let v = known_at (max x.unsigned y.unsigned) (max x.signed y.signed) in
    cond_both b p q (λ n. IsKnown w n v) (λ _. weaker w p x _ _ s (omega arith) (omega arith)) (λ _. weaker w q y _ _ t (omega arith) (omega arith))

umin_known : (w a b : ℕ) (x y : Known) → 0 < w → a < 2 ^ w → b < 2 ^ w → IsKnown w a x → IsKnown w b y → IsKnown w (min a b) (known_at (min x.unsigned y.unsigned) w)
umin_known w a b x y h p q s t =
    let l : min a b < 2 ^ w = omega arith in
    let lx : min a b < 2 ^ x.unsigned = omega (arith, s.below) in
    let ly : min a b < 2 ^ y.unsigned = omega (arith, t.below) in
    record {
      some_unsigned = omega (arith, s.some_unsigned, t.some_unsigned);
      some_signed = h;
      below = below-min (min a b) x.unsigned y.unsigned lx ly;
      within = signed-within w (min a b) h l;
    }

umax_known : (w a b : ℕ) (x y : Known) → 0 < w → a < 2 ^ w → b < 2 ^ w → IsKnown w a x → IsKnown w b y → IsKnown w (max a b) (known_at (max x.unsigned y.unsigned) w)
umax_known w a b x y h p q s t =
    let u = max x.unsigned y.unsigned in
    let ux : x.unsigned ≤ u = omega arith in
    let uy : y.unsigned ≤ u = omega arith in
    let l : max a b < 2 ^ w = omega arith in
    record {
      some_unsigned = omega (arith, s.some_unsigned);
      some_signed = h;
      below = omega (arith, below_wider a x.unsigned u s.below ux, below_wider b y.unsigned u t.below uy);
      within = signed-within w (max a b) h l;
    }

cat_known : (m n a b : ℕ) (x : Known) → 0 < m → a < 2 ^ m → b < 2 ^ n → IsKnown m a x → IsKnown (m + n) (a * 2 ^ n + b) (known_at (n + x.unsigned) (n + x.signed))
cat_known m n a b x h p q s = record {
  some_unsigned = omega (arith, s.some_unsigned);
  some_signed = omega (arith, s.some_signed);
  below = subst (λ k. a * 2 ^ n + b < 2 ^ k) (add_comm x.unsigned n) (above_below a b x.unsigned n s.below q);
  within = above-within m n a b x.signed h s.some_signed p q (above_below a b m n p q) s.within;
}

-- the operations that keep the width
abbrev KeepsWidth : TwoOp → Type 0
KeepsWidth op = (w a b : ℕ) (x y : Known) → 0 < w → a < 2 ^ w → b < 2 ^ w → IsKnown w a x → IsKnown w b y → IsKnown w (two_value op w w a b) (two_known op w w x y)

and_known : KeepsWidth And
and_known w a b x y h p q s t =
    let low = below-min (bit_and a b) x.unsigned y.unsigned (omega (arith, and_le_l a b, s.below)) (omega (arith, and_le_r a b, t.below)) in
    bits_known bit_and w a b (min x.unsigned y.unsigned) x y and_bitwise h p q (omega (arith, and_le_l a b)) (omega (arith, s.some_unsigned, t.some_unsigned)) low s t

or_known : KeepsWidth Or
or_known w a b x y h p q s t =
    let u = max x.unsigned y.unsigned in
    let ux : x.unsigned ≤ u = omega arith in
    let uy : y.unsigned ≤ u = omega arith in
    bits_known bit_or w a b u x y or_bitwise h p q (or_lt w a b p q) (omega (arith, s.some_unsigned)) (or_lt u a b (below_wider a x.unsigned u s.below ux) (below_wider b y.unsigned u t.below uy)) s t

xor_known : KeepsWidth Xor
xor_known w a b x y h p q s t =
    let u = max x.unsigned y.unsigned in
    let ux : x.unsigned ≤ u = omega arith in
    let uy : y.unsigned ≤ u = omega arith in
    bits_known bit_xor w a b u x y xor_bitwise h p q (xor_lt w a b p q) (omega (arith, s.some_unsigned)) (xor_lt u a b (below_wider a x.unsigned u s.below ux) (below_wider b y.unsigned u t.below uy)) s t

-- the greater of two, in the other order
smax_known : KeepsWidth Smax
smax_known w a b x y h p q s t =
    let v = known_at (max x.unsigned y.unsigned) (max x.signed y.signed) in
    cond_both (int_lt (signed_at w a) (signed_at w b)) b a (λ n. IsKnown w n v) (λ _. weaker w b y _ _ t (omega arith) (omega arith)) (λ _. weaker w a x _ _ s (omega arith) (omega arith))

-- from terms of widths that are equal to w
at_width : (op : TwoOp) (w m n a b : ℕ) (x y : Known) → KeepsWidth op → 0 < w → m ≡ w → n ≡ w → a < 2 ^ m → b < 2 ^ n → IsKnown m a x → IsKnown n b y → IsKnown w (two_value op w n a b) (two_known op w n x y)
at_width op w m n a b x y keeps h d e p q s t =
    subst (λ k. IsKnown w (two_value op w k a b) (two_known op w k x y)) (sym e) (keeps w a b x y h (subst (λ k. a < 2 ^ k) d p) (subst (λ k. b < 2 ^ k) e q) (subst (λ k. IsKnown k a x) d s) (subst (λ k. IsKnown k b y) e t))

pub two-known : (op : TwoOp) (w m n a b : ℕ) (x y : Known) → 0 < w → 0 < m → TwoFits op w m n → a < 2 ^ m → b < 2 ^ n → IsKnown m a x → IsKnown n b y → IsKnown w (two_value op w n a b) (two_known op w n x y)
two-known Add w m n a b x y h z f p q s t = at_width Add w m n a b x y add_known h f.0 f.1 p q s t
two-known Mul w m n a b x y h z f p q s t = at_width Mul w m n a b x y mul_known h f.0 f.1 p q s t
two-known And w m n a b x y h z f p q s t = at_width And w m n a b x y and_known h f.0 f.1 p q s t
two-known Or w m n a b x y h z f p q s t = at_width Or w m n a b x y or_known h f.0 f.1 p q s t
two-known Xor w m n a b x y h z f p q s t = at_width Xor w m n a b x y xor_known h f.0 f.1 p q s t
two-known Smin w m n a b x y h z f p q s t =
    at_width Smin w m n a b x y (λ w a b x y h p q s t. either_known (int_lt (signed_at w a) (signed_at w b)) w a b x y s t) h f.0 f.1 p q s t
two-known Smax w m n a b x y h z f p q s t = at_width Smax w m n a b x y smax_known h f.0 f.1 p q s t
two-known Umin w m n a b x y h z f p q s t = at_width Umin w m n a b x y umin_known h f.0 f.1 p q s t
two-known Umax w m n a b x y h z f p q s t = at_width Umax w m n a b x y umax_known h f.0 f.1 p q s t
two-known Eq w m n a b x y h z f p q s t = full w _ h (two-below Eq w m n a b f p q)
two-known Slt w m n a b x y h z f p q s t = full w _ h (two-below Slt w m n a b f p q)
two-known Ult w m n a b x y h z f p q s t = full w _ h (two-below Ult w m n a b f p q)
two-known Cat w m n a b x y h z f p q s t = subst (λ k. IsKnown k (a * 2 ^ n + b) (known_at (n + x.unsigned) (n + x.signed))) (sym f) (cat_known m n a b x z p q s)

-- the digits hold a number
pub digits-below : (n : ℕ) → n < 2 ^ 128 → n < 2 ^ digits n
digits-below n h =
    let l = leading_length 128 n h in
    let e : l.0 ≡ digits n = omega (arith, l.1) in
    subst (λ k. n < 2 ^ k) e l.2

const_known : (w v : ℕ) → 0 < w → w ≤ 128 → v < 2 ^ w → IsKnown w v (known_at (max 1 (digits v)) (digits (magnitude (signed_at w v)) + 1))
const_known w v h l b =
    let d = digits v in
    let wide : d ≤ max 1 d = omega arith in
    let m = magnitude (signed_at w v) in
    let half : w - 1 ≤ 128 = omega arith in
    let e : digits m ≡ digits m + 1 - 1 = omega arith in
    record {
      some_unsigned = omega arith;
      some_signed = omega arith;
      below = below_wider v d (max 1 d) (digits-below v (below_wider v w 128 b l)) wide;
      within = subst (λ k. m < 2 ^ k) e (digits-below m (below_wider m (w - 1) 128 (signed-within w v h b) half));
    }

pub width_some : (t : Tree) → WellFormed t → IsWidth (width_of t)
width_some (leaf w k) h = h
width_some (constant w v) h = h.0
width_some (one op w k x) h = h.0
width_some (two op w x y) h = h.0
width_some (sel w c x y) h = h.0

pub known-holds : (env : Env) (t : Tree) → WellFormed t → IsKnown (width_of t) (value env t) (known t)
known-holds env (leaf w k) h = cut-known w (value env (leaf w k)) (known_at w w) h.0 (value-below env (leaf w k) h) (full w _ h.0 (value-below env (leaf w k) h))
known-holds env (constant w v) h = cut-known w v _ h.0.0 h.1 (const_known w v h.0.0 h.0.1 h.1)
known-holds env (one op w k x) h =
    cut-known w (value env (one op w k x)) (one_known op w k (width_of x) (known x)) h.0.0 (value-below env (one op w k x) h) (one-known op w k (width_of x) (value env x) (known x) h.0.0 h.1 (value-below env x h.2) (known-holds env x h.2))
known-holds env (two op w x y) h =
    cut-known w (value env (two op w x y)) (two_known op w (width_of y) (known x) (known y)) h.0.0 (value-below env (two op w x y) h) (two-known op w (width_of x) (width_of y) (value env x) (value env y) (known x) (known y) h.0.0 (width_some x h.2).0 h.1 (value-below env x h.2) (value-below env y h.3) (known-holds env x h.2) (known-holds env y h.3))
known-holds env (sel w c x y) h =
    let first = subst (λ k. IsKnown k (value env x) (known x)) h.1.1 (known-holds env x h.3) in
    let second = subst (λ k. IsKnown k (value env y) (known y)) h.1.2 (known-holds env y h.4) in
    cut-known w (value env (sel w c x y)) _ h.0.0 (value-below env (sel w c x y) h) (either_known (nat_eq (value env c) 1) w (value env x) (value env y) (known x) (known y) first second)

-- and they are at most the width
pub known_some : (t : Tree) → WellFormed t → (0 < (known t).unsigned) × (0 < (known t).signed)
known_some t h = let holds = known-holds (record { pairs = [] }) t h in (holds.some_unsigned, holds.some_signed)

pub known_unsigned : (t : Tree) → (known t).unsigned ≤ width_of t
known_unsigned (leaf w k) = omega arith
known_unsigned (constant w v) = omega arith
known_unsigned (one op w k x) = omega arith
known_unsigned (two op w x y) = omega arith
known_unsigned (sel w c x y) = omega arith

pub known_signed : (t : Tree) → (known t).signed ≤ width_of t
known_signed (leaf w k) = omega arith
known_signed (constant w v) = omega arith
known_signed (one op w k x) = omega arith
known_signed (two op w x y) = omega arith
known_signed (sel w c x y) = omega arith
