-- Bits of shifts, shifts of extensions, shifts of shifts, and parts of a number above another.
use Rattle.std.proofs.Common.{◌≡◌, ℕ, ◌+◌, ◌-◌, ◌*◌, ◌/◌, ◌%◌, ◌^◌, ◌<◌, ◌≤◌, sym, ap, ◌∙◌, subst, arith, inl, inr}
use Rattle.std.specs.Prelude.{ℤ, pos, negsuc, min}
use Rattle.std.proofs.lemmas.Bool.{cases_lt}
use Rattle.std.proofs.lemmas.Nat.{pow_pos, mod_below, shr_le, shr_below, shr_high, shr-shr, mod_low, pow-add, div-add-mod', field_of, mod-pow-add}
use Rattle.std.proofs.Math.Nat.{div-eq_of_lt, add-mul-mod_self_right}
use Rattle.vg_base.specs.Bits.{signed_at}
use Rattle.vg_base.specs.Number.{residue, floor_shift, magnitude}
use Rattle.vg_base.proofs.LowBits.{below_wider, low-below, shift-low, shift-high}
use Rattle.vg_base.proofs.Signed.{low_of_negative, signed-residue, signed-within}

-- the complement of m bits, shifted
ones_over : (m k x : ℕ) → k ≤ m → x < 2 ^ m → (2 ^ m - 1 - x) / 2 ^ k ≡ 2 ^ (m - k) - 1 - x / 2 ^ k
ones_over m k x h b =
    let e : (m - k) + k ≡ m = omega arith in
    let top : 2 ^ (m - k) * 2 ^ k ≡ 2 ^ m = subst (λ n. 2 ^ (m - k) * 2 ^ k ≡ 2 ^ n) e (sym (pow-add 2 (m - k) k)) in
    let q = x / 2 ^ k in
    let row : q < 2 ^ (m - k) = shr_below x (m - k) k (subst (λ n. x < 2 ^ n) (sym e) b) in
    let split : q * 2 ^ k + x % 2 ^ k ≡ x = div-add-mod' x (2 ^ k) in
    let low : x % 2 ^ k < 2 ^ k = mod_below x (2 ^ k) (pow_pos k) in
    let r = 2 ^ (m - k) - 1 - q in
    let rows : r + 1 + q ≡ 2 ^ (m - k) = omega arith in
    let all : (r + 1 + q) * 2 ^ k ≡ 2 ^ m = ap (λ n. n * 2 ^ k) rows ∙ top in
    let flat : 2 ^ m - 1 - x ≡ r * 2 ^ k + (2 ^ k - 1 - x % 2 ^ k) = omega arith in
    let small : 2 ^ k - 1 - x % 2 ^ k < 2 ^ k = omega arith in
    ap (λ n. n / 2 ^ k) flat ∙ shr_high r k (2 ^ k - 1 - x % 2 ^ k) small

-- low bits that a shift with sign takes from below the sign
pub low_of_signed_shift : (m n k v : ℕ) → n + k ≤ m → v < 2 ^ m → residue m (floor_shift (signed_at m v) k) % 2 ^ n ≡ v / 2 ^ k % 2 ^ n
low_of_signed_shift m n k v h b =
    let nm : n ≤ m = omega arith in
    let km : k ≤ m = omega arith in
    let rest : n ≤ m - k = omega arith in
    elim (cases_lt v (2 ^ (m - 1))) [
      | inl l ↦ ap (λ x. x % 2 ^ n) (shift-low m k v l)
      | inr g ↦ (
          let x = 2 ^ m - 1 - v in
          let small : x < 2 ^ m = omega (arith, pow_pos m) in
          let back : 2 ^ m - 1 - x ≡ v = omega arith in
          let same : m ≤ m = omega arith in
          let q = x / 2 ^ k in
          let qm : q < 2 ^ m = omega (arith, shr_le x k) in
          let e : (m - k) + k ≡ m = omega arith in
          let qk : q < 2 ^ (m - k) = shr_below x (m - k) k (subst (λ n. x < 2 ^ n) (sym e) small) in
          let itself : m - k ≤ m - k = omega arith in
          ap (λ y. y % 2 ^ n) (shift-high m k v b g)
          ∙ ap (λ y. (2 ^ m - 1 - y) % 2 ^ n) (sym (low-below q m m qm same)) ∙ low_of_negative m n q nm
          ∙ sym (ap (λ y. y / 2 ^ k % 2 ^ n) (sym back) ∙ ap (λ y. y % 2 ^ n) (ones_over m k x km small) ∙ ap (λ y. (2 ^ (m - k) - 1 - y) % 2 ^ n) (sym (low-below q (m - k) (m - k) qk itself)) ∙ low_of_negative (m - k) n q rest))
    ]

-- n bits from the place k on lie below n + k
pub low_of_shift : (n k v : ℕ) → v / 2 ^ k % 2 ^ n ≡ v % 2 ^ (n + k) / 2 ^ k
low_of_shift n k v = sym (field_of v n k)

-- all bits are shifted out
pub shifted_out : (m k v : ℕ) → v < 2 ^ m → m ≤ k → v / 2 ^ k ≡ 0
shifted_out m k v b h = div-eq_of_lt (below_wider v m k b h)

-- a shift with sign of a zero extension is one without
pub signed_shift-zext : (w m k v : ℕ) → m < w → v < 2 ^ m → residue w (floor_shift (signed_at w v) k) ≡ v / 2 ^ k
signed_shift-zext w m k v h b = let l : m ≤ w - 1 = omega arith in shift-low w k v (below_wider v m (w - 1) b l)

pub floor_shift-shift : (z : ℤ) (j k : ℕ) → floor_shift (floor_shift z j) k ≡ floor_shift z (j + k)
floor_shift-shift (pos n) j k = ap pos (shr-shr n j k)
floor_shift-shift (negsuc n) j k = ap negsuc (shr-shr n j k)

pub magnitude-floor_shift : (z : ℤ) (k : ℕ) → magnitude (floor_shift z k) ≤ magnitude z
magnitude-floor_shift (pos n) k = shr_le n k
magnitude-floor_shift (negsuc n) k = shr_le n k

out_from : (n b k : ℕ) → n < 2 ^ b → b ≤ k → n / 2 ^ k ≡ n / 2 ^ b
out_from n b k p h = let itself : b ≤ b = omega arith in shifted_out b k n p h ∙ sym (shifted_out b b n p itself)

-- past its bits only the sign is left
pub floor_shift-past : (z : ℤ) (b k : ℕ) → magnitude z < 2 ^ b → b ≤ k → floor_shift z k ≡ floor_shift z b
floor_shift-past (pos n) b k p h = ap pos (out_from n b k p h)
floor_shift-past (negsuc n) b k p h = ap negsuc (out_from n b k p h)

pub floor_shift-capped : (z : ℤ) (b k : ℕ) → magnitude z < 2 ^ b → floor_shift z k ≡ floor_shift z (min k b)
floor_shift-capped z b k p =
    elim (cases_lt k b) [
      | inl l ↦ (let e : min k b ≡ k = omega arith in ap (floor_shift z) (sym e))
      | inr g ↦ (let e : min k b ≡ b = omega arith in floor_shift-past z b k p g ∙ ap (floor_shift z) (sym e))
    ]

-- a shift with sign of a sign extension is the extension of one
pub signed_shift-sext : (w m k v : ℕ) → 0 < m → m < w → v < 2 ^ m → residue w (floor_shift (signed_at w (residue w (signed_at m v))) k) ≡ residue w (signed_at m (residue m (floor_shift (signed_at m v) (min k (m - 1)))))
signed_shift-sext w m k v h l b =
    let z = signed_at m v in
    let j = min k (m - 1) in
    let inside : magnitude z < 2 ^ (m - 1) = signed-within m v h b in
    let w_some : 0 < w = omega arith in
    let less : m - 1 ≤ w - 1 = omega arith in
    let wide = signed-residue w z w_some (below_wider (magnitude z) (m - 1) (w - 1) inside less) in
    let kept : magnitude (floor_shift z j) < 2 ^ (m - 1) = omega (arith, magnitude-floor_shift z j) in
    ap (λ y. residue w (floor_shift y k)) wide ∙ ap (residue w) (floor_shift-capped z (m - 1) k inside) ∙ ap (residue w) (sym (signed-residue m (floor_shift z j) h kept))

-- a shift with sign of one is one by the sum
pub signed_shift-shift : (w j k v : ℕ) → 0 < w → v < 2 ^ w → residue w (floor_shift (signed_at w (residue w (floor_shift (signed_at w v) j))) k) ≡ residue w (floor_shift (signed_at w v) (min (j + k) (w - 1)))
signed_shift-shift w j k v h b =
    let z = signed_at w v in
    let inside : magnitude z < 2 ^ (w - 1) = signed-within w v h b in
    let kept : magnitude (floor_shift z j) < 2 ^ (w - 1) = omega (arith, magnitude-floor_shift z j) in
    ap (λ y. residue w (floor_shift y k)) (signed-residue w (floor_shift z j) h kept) ∙ ap (residue w) (floor_shift-shift z j k) ∙ ap (residue w) (floor_shift-capped z (w - 1) (j + k) inside)

-- the low k bits of a number a above a number b of n bits
pub low_of_pair : (a b n k : ℕ) → k ≤ n → (a * 2 ^ n + b) % 2 ^ k ≡ b % 2 ^ k
low_of_pair a b n k h =
    let e : (n - k) + k ≡ n = omega arith in
    let top : 2 ^ (n - k) * 2 ^ k ≡ 2 ^ n = subst (λ m. 2 ^ (n - k) * 2 ^ k ≡ 2 ^ m) e (sym (pow-add 2 (n - k) k)) in
    let flat : a * 2 ^ n + b ≡ b + (a * 2 ^ (n - k)) * 2 ^ k = ap (λ m. a * m + b) (sym top) ∙ omega arith in
    ap (λ m. m % 2 ^ k) flat ∙ add-mul-mod_self_right b (a * 2 ^ (n - k)) (2 ^ k)

-- more of them: low bits of a above the whole of b
pub more_of_pair : (a b n k : ℕ) → b < 2 ^ n → n ≤ k → (a * 2 ^ n + b) % 2 ^ k ≡ a % 2 ^ (k - n) * 2 ^ n + b
more_of_pair a b n k p h =
    let e : (k - n) + n ≡ k = omega arith in
    let high = shr_high a n b p in
    let low = mod_low a n b p in
    subst (λ m. (a * 2 ^ n + b) % 2 ^ m ≡ a % 2 ^ (k - n) * 2 ^ n + b) e (mod-pow-add (a * 2 ^ n + b) (k - n) n ∙ ap (λ m. m % 2 ^ (k - n) * 2 ^ n + (a * 2 ^ n + b) % 2 ^ n) high ∙ ap (λ m. a % 2 ^ (k - n) * 2 ^ n + m) low)

-- what a shift by n or more leaves of the pair
pub shift_of_pair : (a b n k : ℕ) → b < 2 ^ n → n ≤ k → (a * 2 ^ n + b) / 2 ^ k ≡ a / 2 ^ (k - n)
shift_of_pair a b n k p h =
    let e : n + (k - n) ≡ k = omega arith in
    subst (λ m. (a * 2 ^ n + b) / 2 ^ m ≡ a / 2 ^ (k - n)) e (sym (shr-shr (a * 2 ^ n + b) n (k - n)) ∙ ap (λ m. m / 2 ^ (k - n)) (shr_high a n b p))
