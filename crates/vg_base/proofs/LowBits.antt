-- Powers of two, low bits and sign bits of numbers of w bits.
use Rattle.std.proofs.Common.{◌≡◌, ℕ, ◌+◌, ◌-◌, ◌*◌, ◌/◌, ◌%◌, ◌^◌, ◌<◌, ◌≤◌, pos, negsuc, ap, ◌∙◌, subst, arith}
use Rattle.std.proofs.lemmas.Bool.{lt-ltb, le-ltb, cond-true, cond-false}
use Rattle.std.proofs.lemmas.Nat.{pow_pos, shr_le, mul-add-lt, shl_whole}
use Rattle.std.proofs.Math.Nat.{pow-le-pow_right, mod-eq_of_lt}
use Rattle.std.proofs.Math.Pow.{pow-add, mod-mod-pow, ones_split, high, ones_lt}
use Rattle.vg_base.specs.Bits.{signed_at}
use Rattle.vg_base.specs.Number.{residue, floor_shift}

pub pow-le : (m n : ℕ) → m ≤ n → 2 ^ m ≤ 2 ^ n
pow-le m n h = let p : 0 < 2 = omega arith in pow-le-pow_right p h

pub below_wider : (v m n : ℕ) → v < 2 ^ m → m ≤ n → v < 2 ^ n
below_wider v m n b h = omega (arith, pow-le m n h)

pub pow-half : (w : ℕ) → 0 < w → 2 ^ (w - 1) + 2 ^ (w - 1) ≡ 2 ^ w
pow-half w h =
    let e : (w - 1) + 1 ≡ w = omega arith in
    let p : 2 ^ ((w - 1) + 1) ≡ 2 ^ (w - 1) * 2 ^ 1 = pow-add 2 (w - 1) 1 in
    let q : 2 ^ w ≡ 2 ^ (w - 1) * 2 ^ 1 = rw e at p in
    omega (arith, q)

-- the low n bits of the low w bits
pub low-low : (v w n : ℕ) → n ≤ w → v % 2 ^ w % 2 ^ n ≡ v % 2 ^ n
low-low v w n h =
    let e : (w - n) + n ≡ w = omega arith in
    subst (λ m. v % 2 ^ m % 2 ^ n ≡ v % 2 ^ n) e (mod-mod-pow v (w - n) n)

-- a number below 2 ^ u is its low n bits
pub low-below : (v u n : ℕ) → v < 2 ^ u → u ≤ n → v % 2 ^ n ≡ v
low-below v u n b h = mod-eq_of_lt (below_wider v u n b h)

pub ones-shr : (j k : ℕ) → (2 ^ (j + k) - 1) / 2 ^ k ≡ 2 ^ j - 1
ones-shr j k = ap (λ n. n / 2 ^ k) (ones_split j k) ∙ high (2 ^ j - 1) k (ones_lt k)

pub ones_of : (w : ℕ) → w ≤ 128 → (2 ^ 128 - 1) / 2 ^ (128 - w) ≡ 2 ^ w - 1
ones_of w h =
    let e : w + (128 - w) ≡ 128 = omega arith in
    subst (λ m. (2 ^ m - 1) / 2 ^ (128 - w) ≡ 2 ^ w - 1) e (ones-shr w (128 - w))

pub signed-low : (w v : ℕ) → v < 2 ^ (w - 1) → signed_at w v ≡ pos v
signed-low w v h = cond-true _ _ _ (lt-ltb _ _ h)

pub signed-high : (w v : ℕ) → 2 ^ (w - 1) ≤ v → signed_at w v ≡ negsuc (2 ^ w - 1 - v)
signed-high w v h = cond-false _ _ _ (le-ltb _ _ h)

-- a number below half, extended by the sign
pub extend-low : (w m v : ℕ) → v < 2 ^ (m - 1) → m < w → residue w (signed_at m v) ≡ v
extend-low w m v h l =
    let k : m - 1 ≤ w = omega arith in
    ap (residue w) (signed-low m v h) ∙ low-below v (m - 1) w h k

pub shift-low : (w k v : ℕ) → v < 2 ^ (w - 1) → residue w (floor_shift (signed_at w v) k) ≡ v / 2 ^ k
shift-low w k v h =
    let l : w - 1 ≤ w = omega arith in
    let s : v / 2 ^ k < 2 ^ (w - 1) = omega (arith, shr_le v k) in
    ap (λ z. residue w (floor_shift z k)) (signed-low w v h) ∙ low-below _ (w - 1) w s l

pub shift-high : (w k v : ℕ) → v < 2 ^ w → 2 ^ (w - 1) ≤ v → residue w (floor_shift (signed_at w v) k) ≡ (2 ^ w - 1) - ((2 ^ w - 1) - v) / 2 ^ k
shift-high w k v b h =
    let l : w ≤ w = omega arith in
    let s : ((2 ^ w - 1) - v) / 2 ^ k < 2 ^ w = omega (arith, shr_le ((2 ^ w - 1) - v) k, pow_pos w) in
    ap (λ z. residue w (floor_shift z k)) (signed-high w v h) ∙ ap (λ n. (2 ^ w - 1) - n) (low-below _ w w s l)

-- one number above another of n bits fits their widths together
pub above_below : (a b m n : ℕ) → a < 2 ^ m → b < 2 ^ n → a * 2 ^ n + b < 2 ^ (m + n)
above_below a b m n p q =
    let e = pow-add 2 m n in
    omega (arith, mul-add-lt a (2 ^ n) b (2 ^ m) p q, e)

pub above-whole : (a m n : ℕ) → a < 2 ^ m → m + n ≤ 128 → (a * 2 ^ n) % 2 ^ 128 ≡ a * 2 ^ n
above-whole a m n p h = shl_whole a m n 128 p h
