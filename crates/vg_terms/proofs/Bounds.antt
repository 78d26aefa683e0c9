-- Numbers within some signed bits: by their high part, under minimum, maximum and more bits.
use Rattle.std.proofs.Common.{◌≡◌, ℕ, ◌+◌, ◌-◌, ◌*◌, ◌/◌, ◌%◌, ◌^◌, ◌<◌, ◌≤◌, ◌⊎◌, refl, sym, ap, ◌∙◌, subst, arith, inl, inr}
use Rattle.std.specs.Prelude.{min, max, bit_and, bit_or, bit_xor}
use Rattle.std.specs.Int.Bits.{or_self, xor_self, or_zero_l, or_zero_r, xor_zero_l, xor_zero_r}
use Rattle.std.proofs.lemmas.Bool.{cases_lt}
use Rattle.std.proofs.lemmas.Nat.{pow_pos, mod_below, shr_below, shr_high, shr-shr, pow-add, div-add-mod', and_shr, or_shr, xor_shr, and_mask, and_comm}
use Rattle.std.proofs.Math.Nat.{mod-eq_of_lt, div-eq_of_lt}
use Rattle.vg_base.specs.Bits.{signed_at}
use Rattle.vg_base.specs.Number.{magnitude}
use Rattle.vg_base.proofs.LowBits.{pow-le, pow-half, below_wider, signed-low, signed-high}
use Rattle.vg_base.proofs.Signed.{signed-within}

-- a bound by the lesser of two powers
pub below-min : (v a b : ℕ) → v < 2 ^ a → v < 2 ^ b → v < 2 ^ min a b
below-min v a b p q =
    elim (cases_lt a b) [ inl l ↦ (let e : min a b ≡ a = omega arith in subst (λ n. v < 2 ^ n) (sym e) p) | inr g ↦ (let e : min a b ≡ b = omega arith in subst (λ n. v < 2 ^ n) (sym e) q) ]

pub within-min : (v a b : ℕ) → v < 2 ^ (a - 1) → v < 2 ^ (b - 1) → v < 2 ^ (min a b - 1)
within-min v a b p q =
    elim (cases_lt a b) [ inl l ↦ (let e : min a b ≡ a = omega arith in subst (λ n. v < 2 ^ (n - 1)) (sym e) p) | inr g ↦ (let e : min a b ≡ b = omega arith in subst (λ n. v < 2 ^ (n - 1)) (sym e) q) ]

pub within_wider : (v m n : ℕ) → v < 2 ^ (m - 1) → m ≤ n → v < 2 ^ (n - 1)
within_wider v m n p h = let k : m - 1 ≤ n - 1 = omega arith in below_wider v (m - 1) (n - 1) p k

-- an unsigned bound, read signed
pub unsigned-within : (w v u : ℕ) → 0 < w → v < 2 ^ w → v < 2 ^ u → magnitude (signed_at w v) < 2 ^ u
unsigned-within w v u h b p =
    elim (cases_lt v (2 ^ (w - 1))) [ inl l ↦ subst (λ z. magnitude z < 2 ^ u) (sym (signed-low w v l)) p | inr g ↦ (let m = signed-within w v h b in omega arith) ]

-- k bits fewer, and at least 1
pub shifted-below : (v u k : ℕ) → v < 2 ^ u → v / 2 ^ k < 2 ^ max 1 (u - k)
shifted-below v u k p =
    elim (cases_lt k u) [ inl l ↦ (let e : (u - k) + k ≡ u = omega arith in let f : max 1 (u - k) ≡ u - k = omega arith in subst (λ n. v / 2 ^ k < 2 ^ n) (sym f) (shr_below v (u - k) k (subst (λ n. v < 2 ^ n) (sym e) p))) | inr g ↦ (let s = below_wider v u k p g in let z : v / 2 ^ k ≡ 0 = div-eq_of_lt s in omega (arith, z, pow_pos (max 1 (u - k)))) ]

pub shifted-within : (v s k : ℕ) → 0 < s → v < 2 ^ (s - 1) → v / 2 ^ k < 2 ^ (max 1 (s - k) - 1)
shifted-within v s k h p =
    elim (cases_lt k s) [ inl l ↦ (let e : (s - k - 1) + k ≡ s - 1 = omega arith in let f : max 1 (s - k) - 1 ≡ s - k - 1 = omega arith in subst (λ n. v / 2 ^ k < 2 ^ n) (sym f) (shr_below v (s - k - 1) k (subst (λ n. v < 2 ^ n) (sym e) p))) | inr g ↦ (let m : s - 1 ≤ k = omega arith in let small = below_wider v (s - 1) k p m in let z : v / 2 ^ k ≡ 0 = div-eq_of_lt small in omega (arith, z, pow_pos (max 1 (s - k) - 1))) ]

-- the bits from the sign bit of s bits on are all equal
abbrev pub IsFlat : ℕ → ℕ → ℕ → Type 0
IsFlat w s v = (v / 2 ^ (s - 1) ≡ 0) ⊎ (v / 2 ^ (s - 1) ≡ 2 ^ (w - (s - 1)) - 1)

flat_top : (w s v : ℕ) → 0 < s → s ≤ w → 2 ^ (w - (s - 1)) * 2 ^ (s - 1) ≡ 2 ^ w
flat_top w s v h l =
    let e : (w - (s - 1)) + (s - 1) ≡ w = omega arith in
    subst (λ m. 2 ^ (w - (s - 1)) * 2 ^ (s - 1) ≡ 2 ^ m) e (sym (pow-add 2 (w - (s - 1)) (s - 1)))

pub within-flat : (w v s : ℕ) → 0 < s → s ≤ w → v < 2 ^ w → magnitude (signed_at w v) < 2 ^ (s - 1) → IsFlat w s v
within-flat w v s h l b m =
    elim (cases_lt v (2 ^ (w - 1))) [
      | inl low ↦ (let n : v < 2 ^ (s - 1) = subst (λ z. magnitude z < 2 ^ (s - 1)) (signed-low w v low) m in inl (div-eq_of_lt n))
      | inr high ↦ (
          let n : 2 ^ w - 1 - v < 2 ^ (s - 1) = subst (λ z. magnitude z < 2 ^ (s - 1)) (signed-high w v high) m in
          let K = 2 ^ (w - (s - 1)) in
          let S = 2 ^ (s - 1) in
          let top : K * S ≡ 2 ^ w = flat_top w s v h l in
          let one : (K - 1) + 1 ≡ K = omega (arith, pow_pos (w - (s - 1))) in
          let rows : ((K - 1) + 1) * S ≡ 2 ^ w = ap (λ k. k * S) one ∙ top in
          let r = v - (K - 1) * S in
          let e : v ≡ (K - 1) * S + r = omega arith in
          let small : r < S = omega arith in
          inr (ap (λ x. x / S) e ∙ shr_high (K - 1) (s - 1) r small))
    ]

pub flat-within : (w v s : ℕ) → 0 < s → s ≤ w → v < 2 ^ w → IsFlat w s v → magnitude (signed_at w v) < 2 ^ (s - 1)
flat-within w v s h l b flat =
    let S = 2 ^ (s - 1) in
    let split : v / S * S + v % S ≡ v = div-add-mod' v S in
    let small : v % S < S = mod_below v S (pow_pos (s - 1)) in
    let k : s - 1 ≤ w - 1 = omega arith in
    let half = pow-le (s - 1) (w - 1) k in
    let w_some : 0 < w = omega arith in
    let whole = pow-half w w_some in
    elim flat [
      | inl z ↦ (
          let none : v / S * S ≡ 0 = ap (λ x. x * S) z ∙ omega arith in
          let low : v < 2 ^ (w - 1) = omega arith in
          subst (λ y. magnitude y < S) (sym (signed-low w v low)) (omega arith))
      | inr o ↦ (
          let K = 2 ^ (w - (s - 1)) in
          let top : K * S ≡ 2 ^ w = flat_top w s v h l in
          let one : (K - 1) + 1 ≡ K = omega (arith, pow_pos (w - (s - 1))) in
          let rows : ((K - 1) + 1) * S ≡ 2 ^ w = ap (λ k. k * S) one ∙ top in
          let e : v / S * S ≡ (K - 1) * S = ap (λ x. x * S) o in
          let high : 2 ^ (w - 1) ≤ v = omega arith in
          subst (λ y. magnitude y < S) (sym (signed-high w v high)) (omega arith))
    ]

-- an operation on bits that keeps zeros and ones apart, in whatever number of bits
pub record IsBitwise (f : ℕ → ℕ → ℕ) : Type 0 where
  pub shr : (a b k : ℕ) → f a b / 2 ^ k ≡ f (a / 2 ^ k) (b / 2 ^ k)
  pub zeros : f 0 0 ≡ 0
  pub low : (k : ℕ) → (f 0 (2 ^ k - 1) ≡ 0) ⊎ (f 0 (2 ^ k - 1) ≡ 2 ^ k - 1)
  pub high : (k : ℕ) → (f (2 ^ k - 1) 0 ≡ 0) ⊎ (f (2 ^ k - 1) 0 ≡ 2 ^ k - 1)
  pub ones : (k : ℕ) → (f (2 ^ k - 1) (2 ^ k - 1) ≡ 0) ⊎ (f (2 ^ k - 1) (2 ^ k - 1) ≡ 2 ^ k - 1)

ones_below : (k : ℕ) → (2 ^ k - 1) % 2 ^ k ≡ 2 ^ k - 1
ones_below k = let l : 2 ^ k - 1 < 2 ^ k = omega (arith, pow_pos k) in mod-eq_of_lt l

zero_below : (k : ℕ) → 0 % 2 ^ k ≡ 0
zero_below k = mod-eq_of_lt (pow_pos k)

pub and_bitwise : IsBitwise bit_and
and_bitwise = record {
  shr = and_shr;
  zeros = refl;
  low = λ k. inl (and_mask 0 k ∙ zero_below k);
  high = λ k. inl (and_comm (2 ^ k - 1) 0 ∙ and_mask 0 k ∙ zero_below k);
  ones = λ k. inr (and_mask (2 ^ k - 1) k ∙ ones_below k);
}

pub or_bitwise : IsBitwise bit_or
or_bitwise = record {
  shr = or_shr;
  zeros = refl;
  low = λ k. inr (or_zero_l (2 ^ k - 1));
  high = λ k. inr (or_zero_r (2 ^ k - 1));
  ones = λ k. inr (or_self (2 ^ k - 1));
}

pub xor_bitwise : IsBitwise bit_xor
xor_bitwise = record {
  shr = xor_shr;
  zeros = refl;
  low = λ k. inr (xor_zero_l (2 ^ k - 1));
  high = λ k. inr (xor_zero_r (2 ^ k - 1));
  ones = λ k. inl (xor_self (2 ^ k - 1));
}

flat-bits : (f : ℕ → ℕ → ℕ) (w s a b : ℕ) → IsBitwise f → IsFlat w s a → IsFlat w s b → IsFlat w s (f a b)
flat-bits f w s a b c p q =
    let O = 2 ^ (w - (s - 1)) - 1 in
    let P : ℕ → Type 0 = λ v. (v ≡ 0) ⊎ (v ≡ O) in
    let at : (x y : ℕ) → a / 2 ^ (s - 1) ≡ x → b / 2 ^ (s - 1) ≡ y → P (f x y) → P (f a b / 2 ^ (s - 1)) = λ x y d e h. subst P (sym (c.shr a b (s - 1) ∙ ap (λ v. f v (b / 2 ^ (s - 1))) d ∙ ap (f x) e)) h in
    elim p [ inl d ↦ elim q [ inl e ↦ at 0 0 d e (inl c.zeros) | inr e ↦ at 0 O d e (c.low (w - (s - 1))) ] | inr d ↦ elim q [ inl e ↦ at O 0 d e (c.high (w - (s - 1))) | inr e ↦ at O O d e (c.ones (w - (s - 1))) ] ]

-- bit by bit, two numbers within s signed bits give one
pub bits-within : (f : ℕ → ℕ → ℕ) (w a b s : ℕ) → IsBitwise f → 0 < w → 0 < s → a < 2 ^ w → b < 2 ^ w → f a b < 2 ^ w → magnitude (signed_at w a) < 2 ^ (s - 1) → magnitude (signed_at w b) < 2 ^ (s - 1) → magnitude (signed_at w (f a b)) < 2 ^ (s - 1)
bits-within f w a b s c hw hs p q r ma mb =
    elim (cases_lt w s) [ inl l ↦ (let k : w ≤ s = omega arith in within_wider _ w s (signed-within w (f a b) hw r) k) | inr g ↦ flat-within w (f a b) s hs g r (flat-bits f w s a b c (within-flat w a s hs g p ma) (within-flat w b s hs g q mb)) ]

-- one number above another of n bits: the sign is that of the first
pub above-within : (m n a b s : ℕ) → 0 < m → 0 < s → a < 2 ^ m → b < 2 ^ n → a * 2 ^ n + b < 2 ^ (m + n) → magnitude (signed_at m a) < 2 ^ (s - 1) → magnitude (signed_at (m + n) (a * 2 ^ n + b)) < 2 ^ (n + s - 1)
above-within m n a b s hm hs p q r ma =
    elim (cases_lt m s) [
      | inl l ↦ (let k : m + n ≤ n + s = omega arith in let z : 0 < m + n = omega arith in within_wider _ (m + n) (n + s) (signed-within (m + n) (a * 2 ^ n + b) z r) k)
      | inr g ↦ (
          let t = n + s in
          let e : n + (s - 1) ≡ t - 1 = omega arith in
          let d : m - (s - 1) ≡ (m + n) - (t - 1) = omega arith in
          let some : 0 < t = omega arith in
          let less : t ≤ m + n = omega arith in
          let high : (a * 2 ^ n + b) / 2 ^ (t - 1) ≡ a / 2 ^ (s - 1) = ap (λ x. (a * 2 ^ n + b) / 2 ^ x) (sym e) ∙ sym (shr-shr (a * 2 ^ n + b) n (s - 1)) ∙ ap (λ x. x / 2 ^ (s - 1)) (shr_high a n b q) in
          let flat : IsFlat (m + n) t (a * 2 ^ n + b) = elim (within-flat m a s hs g p ma) [ inl z ↦ inl (high ∙ z) | inr o ↦ inr (high ∙ o ∙ ap (λ x. 2 ^ x - 1) d) ] in
          flat-within (m + n) (a * 2 ^ n + b) t some less r flat)
    ]
