-- Laws of lists of bits and their numbers: lengths, both ways between them, concatenations and parts.
use Rattle.std.proofs.Common.{◌≡◌, ℕ, zero, suc, ◌+◌, ◌-◌, ◌*◌, ◌/◌, ◌%◌, ◌^◌, ◌<◌, ◌≤◌, List, [], ◌∷◌, ◌++◌, length, take, drop, replicate, refl, sym, ap, ◌∙◌, arith, zero-add}
use Rattle.std.proofs.Math.Nat.{pow-suc, pow-le-pow_right}
use Rattle.std.proofs.lemmas.Nat.{shr-shr, pow_pos, mod_below, mod_low, shr_high}
use Rattle.std.proofs.lemmas.List.{take_at, drop_at, length-take}
use Rattle.vg_base.specs.Bits.{bits, num}
use Rattle.vg_base.proofs.Bits.{length-bits, num-bits}
use Rattle.vg_bits.specs.BitList.{IsBits}
use Rattle.vg_bits.specs.Range.{range}
use Rattle.vg_bits.proofs.Ranges.{length-range, range-append, range-halves}

pub IsBits-bits : (w n : ℕ) → IsBits (bits w n)
unfolding bits
IsBits-bits zero n = tt
IsBits-bits (suc w) n = (omega arith, IsBits-bits w (n / 2))

pub IsBits-append : (xs ys : List ℕ) → IsBits xs → IsBits ys → IsBits (xs ++ ys)
IsBits-append [] ys p q = q
IsBits-append (x ∷ xs) ys p q = (p.0, IsBits-append xs ys p.1 q)

pub IsBits-take : (n : ℕ) (l : List ℕ) → IsBits l → IsBits (take n l)
IsBits-take zero l p = tt
IsBits-take (suc n) [] p = tt
IsBits-take (suc n) (x ∷ l) p = (p.0, IsBits-take n l p.1)

pub IsBits-drop : (n : ℕ) (l : List ℕ) → IsBits l → IsBits (drop n l)
IsBits-drop zero l p = p
IsBits-drop (suc n) [] p = tt
IsBits-drop (suc n) (x ∷ l) p = IsBits-drop n l p.1

pub IsBits-range : (low width : ℕ) (l : List ℕ) → IsBits l → IsBits (range low width l)
IsBits-range low width l p = IsBits-take width (drop low l) (IsBits-drop low l p)

-- ---- concatenations

-- the bits of a concatenation: the lower ones, then those of what is above them
pub bits-append : (m k n : ℕ) → bits (m + k) n ≡ bits m n ++ bits k (n / 2 ^ m)
unfolding bits
bits-append zero k n =
    let same : n / 2 ^ 0 ≡ n = omega arith in
    ap (λ (w : ℕ). bits w n) (zero-add k) ∙ ap (bits k) (sym same)
bits-append (suc m) k n =
    let width : suc m + k ≡ suc (m + k) = omega arith in
    let above : n / 2 / 2 ^ m ≡ n / 2 ^ suc m = shr-shr n 1 m ∙ ap (λ (j : ℕ). n / 2 ^ j) (omega arith) in
    ap (λ (w : ℕ). bits w n) width
    ∙ ap (λ (l : List ℕ). n % 2 ∷ l) (bits-append m k (n / 2) ∙ ap (λ (q : ℕ). bits m (n / 2) ++ bits k q) above)

-- the number of a concatenation: the upper part counts 2 ^ length of the lower
pub num-append : (xs ys : List ℕ) → num (xs ++ ys) ≡ num xs + 2 ^ length xs * num ys
unfolding num
num-append [] ys = omega arith
num-append (x ∷ xs) ys = omega (arith, num-append xs ys, ap (λ (p : ℕ). p * num ys) (pow-suc 2 (length xs)))

-- ---- from numbers to bits and back

pub bits-num : (l : List ℕ) → IsBits l → bits (length l) (num l) ≡ l
unfolding bits num
bits-num [] p = refl
bits-num (b ∷ bs) p =
    let bit : (b + 2 * num bs) % 2 ≡ b = omega (arith, p.0) in
    let rest : (b + 2 * num bs) / 2 ≡ num bs = omega (arith, p.0) in
    (λ i. bit i ∷ (ap (bits (length bs)) rest ∙ bits-num bs p.1) i)

pub num_below : (l : List ℕ) → IsBits l → num l < 2 ^ length l
unfolding num
num_below [] p = omega arith
num_below (b ∷ bs) p = omega (arith, p.0, num_below bs p.1, pow-suc 2 (length bs))

-- lists of bits of one length and one number are equal
pub same_from_num : (xs ys : List ℕ) → IsBits xs → IsBits ys → length xs ≡ length ys → num xs ≡ num ys → xs ≡ ys
same_from_num xs ys p q alike same = sym (bits-num xs p) ∙ (λ i. bits (alike i) (same i)) ∙ bits-num ys q

-- only what is below 2 ^ w counts
pub bits-mod : (w n : ℕ) → bits w (n % 2 ^ w) ≡ bits w n
bits-mod w n = (λ i. bits (sym (length-bits w n) i) (sym (num-bits w n) i)) ∙ bits-num (bits w n) (IsBits-bits w n)

-- ---- parts

pub take-bits : (m k n : ℕ) → take m (bits (m + k) n) ≡ bits m n
take-bits m k n = ap (take m) (bits-append m k n) ∙ take_at (bits m n) (bits k (n / 2 ^ m)) m (length-bits m n)

pub drop-bits : (m k n : ℕ) → drop m (bits (m + k) n) ≡ bits k (n / 2 ^ m)
drop-bits m k n = ap (drop m) (bits-append m k n) ∙ drop_at (bits m n) (bits k (n / 2 ^ m)) m (length-bits m n)

pub range-bits : (low width w n : ℕ) → low + width ≤ w → range low width (bits w n) ≡ bits width (n / 2 ^ low)
range-bits low width w n fits =
    let rest = w - low - width in
    let whole : w ≡ low + (width + rest) = omega arith in
    ap (λ (v : ℕ). range low width (bits v n)) whole
    ∙ ap (take width) (drop-bits low (width + rest) n)
    ∙ take-bits width rest (n / 2 ^ low)

-- the number of a range of a number's bits
pub num-range-bits : (low width w n : ℕ) → low + width ≤ w → num (range low width (bits w n)) ≡ n / 2 ^ low % 2 ^ width
num-range-bits low width w n fits = ap num (range-bits low width w n fits) ∙ num-bits width (n / 2 ^ low)

-- the number of two ranges side by side
pub num-range-append : (low m n : ℕ) (l : List ℕ) → low + m ≤ length l → num (range low (m + n) l) ≡ num (range low m l) + 2 ^ m * num (range (low + m) n l)
num-range-append low m n l fits =
    ap num (range-append low m n l)
    ∙ num-append (range low m l) (range (low + m) n l)
    ∙ ap (λ (k : ℕ). num (range low m l) + 2 ^ k * num (range (low + m) n l)) (length-range low m l fits)

-- to move a range is to get its number and put that
pub bits-num-range : (low width : ℕ) (l : List ℕ) → IsBits l → low + width ≤ length l → bits width (num (range low width l)) ≡ range low width l
bits-num-range low width l p fits =
    ap (λ (w : ℕ). bits w (num (range low width l))) (sym (length-range low width l fits)) ∙ bits-num (range low width l) (IsBits-range low width l p)

pub num-range_below : (low width : ℕ) (l : List ℕ) → IsBits l → num (range low width l) < 2 ^ width
num-range_below low width l p =
    let few : length (range low width l) ≤ width = omega (arith, length-take width (drop low l)) in
    let most : 2 ^ length (range low width l) ≤ 2 ^ width = pow-le-pow_right {n = 2} (omega arith) few in
    omega (arith, num_below (range low width l) (IsBits-range low width l p))

-- a range of bits is a quotient and a remainder of their number
pub num-range : (low width : ℕ) (l : List ℕ) → IsBits l → low + width ≤ length l → num (range low width l) ≡ num l / 2 ^ low % 2 ^ width
num-range low width l p fits =
    ap (λ (bs : List ℕ). num (range low width bs)) (sym (bits-num l p)) ∙ num-range-bits low width (length l) (num l) fits

-- the number of two halves, and of any two parts
pub num-halves : (m : ℕ) (l : List ℕ) → m ≤ length l → num l ≡ num (range 0 m l) + 2 ^ m * num (drop m l)
num-halves m l fits =
    ap num (sym (range-halves m l))
    ∙ num-append (range 0 m l) (drop m l)
    ∙ ap (λ (k : ℕ). num (range 0 m l) + 2 ^ k * num (drop m l)) (length-range 0 m l (omega arith))

-- the bits of two numbers one above the other
pub bits-concatenation : (m k a b : ℕ) → bits (m + k) (a % 2 ^ m + 2 ^ m * b) ≡ bits m a ++ bits k b
bits-concatenation m k a b =
    let n = b * 2 ^ m + a % 2 ^ m in
    let low : a % 2 ^ m < 2 ^ m = mod_below a (2 ^ m) (pow_pos m) in
    let same : a % 2 ^ m + 2 ^ m * b ≡ n = omega arith in
    ap (bits (m + k)) same
    ∙ bits-append m k n
    ∙ (λ i. (sym (bits-mod m n) ∙ ap (bits m) (mod_low b m (a % 2 ^ m) low) ∙ bits-mod m a) i ++ ap (bits k) (shr_high b m (a % 2 ^ m) low) i)

pub bits-zero : (w : ℕ) → bits w 0 ≡ replicate w 0
unfolding bits
bits-zero zero = refl
bits-zero (suc w) = ap (λ (l : List ℕ). 0 ∷ l) (bits-zero w)
