-- Laws of lists of bytes: their bits, their number, and parts of them.
use Rattle.std.proofs.Common.{◌≡◌, ℕ, zero, suc, ◌+◌, ◌*◌, ◌/◌, ◌%◌, ◌^◌, ◌<◌, ◌≤◌, List, [], ◌∷◌, ◌++◌, length, get_or, set, take, drop, replicate, refl, sym, ap, ◌∙◌, arith, length-append, length-drop, append_assoc, take-append-drop}
use Rattle.std.proofs.lemmas.List.{take_at, drop_at, set_split, length-take-le, drop_more, append-nil, replicate-append-replicate}
use Rattle.vg_base.specs.Bits.{bits, num, bits_of_bytes, number, bytes}
use Rattle.vg_bits.specs.BitList.{IsBits, IsBytes}
use Rattle.vg_bits.specs.Range.{range, replaced}
use Rattle.vg_base.proofs.Bits.{length-bits, num-bits}
use Rattle.vg_bits.proofs.BitLists.{IsBits-bits, IsBits-append, bits-append, num-append, bits-num, bits-mod, bits-zero}

pub length-bits_of_bytes : (bs : List ℕ) → length (bits_of_bytes bs) ≡ 8 * length bs
unfolding bits_of_bytes
length-bits_of_bytes [] = refl
length-bits_of_bytes (b ∷ bs) = omega (arith, length-append (bits 8 b) (bits_of_bytes bs), length-bits 8 b, length-bits_of_bytes bs)

pub IsBits-bits_of_bytes : (bs : List ℕ) → IsBits (bits_of_bytes bs)
unfolding bits_of_bytes
IsBits-bits_of_bytes [] = tt
IsBits-bits_of_bytes (b ∷ bs) = IsBits-append (bits 8 b) (bits_of_bytes bs) (IsBits-bits 8 b) (IsBits-bits_of_bytes bs)

pub bits_of_bytes-append : (xs ys : List ℕ) → bits_of_bytes (xs ++ ys) ≡ bits_of_bytes xs ++ bits_of_bytes ys
unfolding bits_of_bytes
bits_of_bytes-append [] ys = refl
bits_of_bytes-append (x ∷ xs) ys = ap (λ (l : List ℕ). bits 8 x ++ l) (bits_of_bytes-append xs ys) ∙ sym (append_assoc (bits 8 x) (bits_of_bytes xs) (bits_of_bytes ys))

-- ---- parts by whole bytes

pub take-bits_of_bytes : (k : ℕ) (bs : List ℕ) → k ≤ length bs → take (8 * k) (bits_of_bytes bs) ≡ bits_of_bytes (take k bs)
take-bits_of_bytes k bs fits =
    ap (λ (l : List ℕ). take (8 * k) (bits_of_bytes l)) (sym (take-append-drop k bs))
    ∙ ap (take (8 * k)) (bits_of_bytes-append (take k bs) (drop k bs))
    ∙ take_at (bits_of_bytes (take k bs)) (bits_of_bytes (drop k bs)) (8 * k) (length-bits_of_bytes (take k bs) ∙ ap (λ (n : ℕ). 8 * n) (length-take-le k bs fits))

pub drop-bits_of_bytes : (k : ℕ) (bs : List ℕ) → k ≤ length bs → drop (8 * k) (bits_of_bytes bs) ≡ bits_of_bytes (drop k bs)
drop-bits_of_bytes k bs fits =
    ap (λ (l : List ℕ). drop (8 * k) (bits_of_bytes l)) (sym (take-append-drop k bs))
    ∙ ap (drop (8 * k)) (bits_of_bytes-append (take k bs) (drop k bs))
    ∙ drop_at (bits_of_bytes (take k bs)) (bits_of_bytes (drop k bs)) (8 * k) (length-bits_of_bytes (take k bs) ∙ ap (λ (n : ℕ). 8 * n) (length-take-le k bs fits))

pub range-bits_of_bytes : (k n : ℕ) (bs : List ℕ) → k + n ≤ length bs → range (8 * k) (8 * n) (bits_of_bytes bs) ≡ bits_of_bytes (range k n bs)
range-bits_of_bytes k n bs fits =
    ap (take (8 * n)) (drop-bits_of_bytes k bs (omega arith)) ∙ take-bits_of_bytes n (drop k bs) (omega (arith, length-drop k bs))

pub replaced-bits_of_bytes : (k : ℕ) (new bs : List ℕ) → k + length new ≤ length bs → replaced (8 * k) (bits_of_bytes new) (bits_of_bytes bs) ≡ bits_of_bytes (replaced k new bs)
replaced-bits_of_bytes k new bs fits =
    let end : 8 * k + length (bits_of_bytes new) ≡ 8 * (k + length new) = omega (arith, length-bits_of_bytes new) in
    (λ i. take-bits_of_bytes k bs (omega arith) i
    ++ (bits_of_bytes new ++ (ap (λ (n : ℕ). drop n (bits_of_bytes bs)) end ∙ drop-bits_of_bytes (k + length new) bs fits) i))
    ∙ ap (λ (l : List ℕ). bits_of_bytes (take k bs) ++ l) (sym (bits_of_bytes-append new (drop (k + length new) bs)))
    ∙ sym (bits_of_bytes-append (take k bs) (new ++ drop (k + length new) bs))

bits_of_byte : (b : ℕ) → bits_of_bytes (b ∷ []) ≡ bits 8 b
unfolding bits_of_bytes
bits_of_byte b = append-nil (bits 8 b)

-- the eight bits of one byte
pub range-byte : (k : ℕ) (bs : List ℕ) → k < length bs → range (8 * k) 8 (bits_of_bytes bs) ≡ bits 8 (get_or bs k 0)
range-byte k bs lt =
    range-bits_of_bytes k 1 bs (omega arith)
    ∙ ap (λ (l : List ℕ). bits_of_bytes (take 1 l)) (drop_more bs k 0 lt)
    ∙ bits_of_byte (get_or bs k 0)

-- one byte written
pub set-byte : (k b : ℕ) (bs : List ℕ) → k < length bs → bits_of_bytes (set bs k b) ≡ replaced (8 * k) (bits 8 b) (bits_of_bytes bs)
set-byte k b bs lt =
    let next : suc k ≡ k + 1 = omega arith in
    ap bits_of_bytes (set_split bs k b lt ∙ ap (λ (n : ℕ). take k bs ++ (b ∷ drop n bs)) next)
    ∙ sym (replaced-bits_of_bytes k (b ∷ []) bs (omega arith))
    ∙ ap (λ (l : List ℕ). replaced (8 * k) l (bits_of_bytes bs)) (bits_of_byte b)

-- ---- the number of a list of bytes

pub num-bits_of_bytes : (bs : List ℕ) → IsBytes bs → num (bits_of_bytes bs) ≡ number bs
unfolding bits_of_bytes number num
num-bits_of_bytes [] p = refl
num-bits_of_bytes (b ∷ bs) p =
    num-append (bits 8 b) (bits_of_bytes bs)
    ∙ ap (λ (w : ℕ). num (bits 8 b) + 2 ^ w * num (bits_of_bytes bs)) (length-bits 8 b)
    ∙ omega (arith, num-bits 8 b, num-bits_of_bytes bs p.1, p.0)

pub bits-number : (bs : List ℕ) → IsBytes bs → bits (8 * length bs) (number bs) ≡ bits_of_bytes bs
bits-number bs p =
    (λ i. bits (sym (length-bits_of_bytes bs) i) (sym (num-bits_of_bytes bs p) i)) ∙ bits-num (bits_of_bytes bs) (IsBits-bits_of_bytes bs)

pub length-bytes : (k n : ℕ) → length (bytes k n) ≡ k
unfolding bytes
length-bytes zero n = refl
length-bytes (suc k) n = ap suc (length-bytes k (n / 256))

pub IsBytes-bytes : (k n : ℕ) → IsBytes (bytes k n)
unfolding bytes
IsBytes-bytes zero n = tt
IsBytes-bytes (suc k) n = (omega arith, IsBytes-bytes k (n / 256))

-- the bytes of a number are its bits
pub bits_of_bytes-bytes : (k n : ℕ) → bits_of_bytes (bytes k n) ≡ bits (8 * k) n
unfolding bits_of_bytes bytes bits
bits_of_bytes-bytes zero n = refl
bits_of_bytes-bytes (suc k) n =
    let width : 8 + 8 * k ≡ 8 * suc k = omega arith in
    (λ i. bits-mod 8 n i ++ bits_of_bytes-bytes k (n / 256) i)
    ∙ sym (bits-append 8 (8 * k) n)
    ∙ ap (λ (w : ℕ). bits w n) width

pub number-bytes : (k n : ℕ) → number (bytes k n) ≡ n % 2 ^ (8 * k)
number-bytes k n = sym (num-bits_of_bytes (bytes k n) (IsBytes-bytes k n)) ∙ ap num (bits_of_bytes-bytes k n) ∙ num-bits (8 * k) n

pub bytes-number : (bs : List ℕ) → IsBytes bs → bytes (length bs) (number bs) ≡ bs
unfolding bytes number
bytes-number [] p = refl
bytes-number (b ∷ bs) p =
    let byte : (b + 256 * number bs) % 256 ≡ b = omega (arith, p.0) in
    let rest : (b + 256 * number bs) / 256 ≡ number bs = omega (arith, p.0) in
    (λ i. byte i ∷ (ap (bytes (length bs)) rest ∙ bytes-number bs p.1) i)

pub bits_of_bytes-zero : (n : ℕ) → bits_of_bytes (replicate n 0) ≡ replicate (8 * n) 0
unfolding bits_of_bytes bits
bits_of_bytes-zero zero = refl
bits_of_bytes-zero (suc n) =
    let width : 8 + 8 * n ≡ 8 * suc n = omega arith in
    (λ i. bits-zero 8 i ++ bits_of_bytes-zero n i)
    ∙ replicate-append-replicate 8 (8 * n) 0
    ∙ ap (λ (k : ℕ). replicate k 0) width

-- ---- lists of bytes told apart

-- lists of bytes with the same bits are equal
pub same_from_bits : (xs ys : List ℕ) → IsBytes xs → IsBytes ys → bits_of_bytes xs ≡ bits_of_bytes ys → xs ≡ ys
same_from_bits xs ys p q same =
    let alike : length xs ≡ length ys = omega (arith, length-bits_of_bytes xs, length-bits_of_bytes ys, ap length same) in
    let numbers : number xs ≡ number ys = sym (num-bits_of_bytes xs p) ∙ ap num same ∙ num-bits_of_bytes ys q in
    sym (bytes-number xs p) ∙ (λ i. bytes (alike i) (numbers i)) ∙ bytes-number ys q

pub IsBytes-from_reads : (bs : List ℕ) → ((k : ℕ) → k < length bs → get_or bs k 0 < 256) → IsBytes bs
IsBytes-from_reads [] p = tt
IsBytes-from_reads (b ∷ bs) p = (p 0 (omega arith), IsBytes-from_reads bs (λ k lt. p (suc k) (omega arith)))
