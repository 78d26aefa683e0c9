-- Reading and writing bits byte by byte: each step of the two loops, and the bits of one byte.
use Rattle.std.proofs.Common.{◌≡◌, ℕ, ◌+◌, ◌-◌, ◌*◌, ◌/◌, ◌%◌, ◌^◌, ◌<◌, ◌≤◌, List, ◌++◌, length, get_or, set, take, drop, sym, ap, ◌∙◌, arith, subst, bit_or}
use Rattle.std.proofs.lemmas.Nat.{pow_pos, pow-add, or_comm, or_shifted, shl_whole, shr_below, shr_high, mod_low, mod_below, mul-add-lt}
use Rattle.vg_base.specs.Bits.{bits, num, bits_of_bytes}
use Rattle.vg_bits.specs.Range.{range, replaced}
use Rattle.vg_bits.proofs.Ranges.{length-range, range-range, range-append, replaced-append, replaced-within}
use Rattle.vg_base.proofs.Bits.{length-bits}
use Rattle.vg_bits.proofs.BitLists.{bits-append, bits-mod, take-bits, drop-bits, num-range-bits, num-range-append, num_below, IsBits-range, bits-num-range}
use Rattle.vg_bits.proofs.ByteLists.{length-bits_of_bytes, IsBits-bits_of_bytes, range-byte, set-byte, range-bits_of_bytes, replaced-bits_of_bytes}

-- ---- numbers put together from an upper and a lower part

below : (a b j k : ℕ) → a < 2 ^ j → b < 2 ^ k → a * 2 ^ k + b < 2 ^ (j + k)
below a b j k upper lower = omega (arith, mul-add-lt a (2 ^ k) b (2 ^ j) upper lower, pow-add 2 j k)

joined : (a b j k : ℕ) → a < 2 ^ j → j + k ≤ 128 → b < 2 ^ k → bit_or (a * 2 ^ k % 2 ^ 128) b ≡ a * 2 ^ k + b
joined a b j k upper fits lower = ap (λ (n : ℕ). bit_or n b) (shl_whole a j k 128 upper fits) ∙ or_shifted a k b lower

cut_below : (n k : ℕ) → n % 2 ^ k < 2 ^ k
cut_below n k = mod_below n (2 ^ k) (pow_pos k)

-- ---- one byte

-- a number with other bits in it
abbrev pub with_bits : ℕ → ℕ → ℕ → ℕ → ℕ
with_bits n shift count new = (n / 2 ^ (shift + count) * 2 ^ count + new % 2 ^ count) * 2 ^ shift + n % 2 ^ shift

pub bits-with_bits : (n shift count rest new : ℕ) → bits (shift + (count + rest)) (with_bits n shift count new) ≡ replaced shift (bits count new) (bits (shift + (count + rest)) n)
bits-with_bits n shift count rest new =
    let upper = n / 2 ^ (shift + count) in
    let middle = upper * 2 ^ count + new % 2 ^ count in
    let low : bits shift (with_bits n shift count new) ≡ bits shift n =
    sym (bits-mod shift (with_bits n shift count new)) ∙ ap (bits shift) (mod_low middle shift (n % 2 ^ shift) (cut_below n shift)) ∙ bits-mod shift n in
    let mid : bits count middle ≡ bits count new =
    sym (bits-mod count middle) ∙ ap (bits count) (mod_low upper count (new % 2 ^ count) (cut_below new count)) ∙ bits-mod count new in
    let end : shift + length (bits count new) ≡ shift + count = ap (λ (k : ℕ). shift + k) (length-bits count new) in
    let width : shift + count + rest ≡ shift + (count + rest) = omega arith in
    bits-append shift (count + rest) (with_bits n shift count new)
    ∙ (λ i. low i ++ (ap (bits (count + rest)) (shr_high middle shift (n % 2 ^ shift) (cut_below n shift))
    ∙ bits-append count rest middle
    ∙ (λ j. mid j ++ ap (bits rest) (shr_high upper count (new % 2 ^ count) (cut_below new count)) j)) i)
    ∙ (λ i. sym (take-bits shift (count + rest) n) i
    ++ (bits count new ++ (sym (drop-bits (shift + count) rest n) ∙ (λ j. drop (sym end j) (bits (width j) n))) i))

module _ (byte shift count new : ℕ) (inside : shift + count ≤ 8) (is_byte : byte < 2 ^ 8) where
  upper_below : byte / 2 ^ (shift + count) < 2 ^ (8 - (shift + count))
  upper_below =
      let whole : 8 ≡ 8 - (shift + count) + (shift + count) = omega arith in
      shr_below byte (8 - (shift + count)) (shift + count) (subst (λ (k : ℕ). byte < 2 ^ k) whole is_byte)

  middle_below : byte / 2 ^ (shift + count) * 2 ^ count + new % 2 ^ count < 2 ^ (8 - (shift + count) + count)
  middle_below = below (byte / 2 ^ (shift + count)) (new % 2 ^ count) (8 - (shift + count)) count upper_below (cut_below new count)

  -- what the code computes
  pub with_bits-joined : bit_or (bit_or (byte / 2 ^ (shift + count) * 2 ^ count % 2 ^ 128) (new % 2 ^ count) * 2 ^ shift % 2 ^ 128) (byte % 2 ^ shift) ≡ with_bits byte shift count new
  with_bits-joined =
      ap (λ (m : ℕ). bit_or (m * 2 ^ shift % 2 ^ 128) (byte % 2 ^ shift)) (joined (byte / 2 ^ (shift + count)) (new % 2 ^ count) (8 - (shift + count)) count upper_below (omega arith) (cut_below new count))
      ∙ joined (byte / 2 ^ (shift + count) * 2 ^ count + new % 2 ^ count) (byte % 2 ^ shift) (8 - (shift + count) + count) shift middle_below (omega arith) (cut_below byte shift)

  pub with_bits_below : with_bits byte shift count new < 2 ^ 8
  with_bits_below =
      let whole : 8 - (shift + count) + count + shift ≡ 8 = omega arith in
      subst (λ (k : ℕ). with_bits byte shift count new < 2 ^ k) whole
      (below (byte / 2 ^ (shift + count) * 2 ^ count + new % 2 ^ count) (byte % 2 ^ shift) (8 - (shift + count) + count) shift middle_below (cut_below byte shift))

  pub byte-with_bits : bits 8 (with_bits byte shift count new) ≡ replaced shift (bits count new) (bits 8 byte)
  byte-with_bits =
      let whole : shift + (count + (8 - shift - count)) ≡ 8 = omega arith in
      let P : ℕ → Type 0 = λ w. bits w (with_bits byte shift count new) ≡ replaced shift (bits count new) (bits w byte) in
      subst P whole (bits-with_bits byte shift count (8 - shift - count) new)

-- ---- the steps of the loops

-- the bits of one byte inside the whole
num-in_byte : (bytes : List ℕ) (byte bit count : ℕ) → byte < length bytes → bit + count ≤ 8 → num (range (8 * byte + bit) count (bits_of_bytes bytes)) ≡ get_or bytes byte 0 / 2 ^ bit % 2 ^ count
num-in_byte bytes byte bit count lt inside =
    ap num (sym (range-range bit count (8 * byte) 8 (bits_of_bytes bytes) inside) ∙ ap (range bit count) (range-byte byte bytes lt))
    ∙ num-range-bits bit count 8 (get_or bytes byte 0) inside

pub read_step : (bytes : List ℕ) (low done byte bit count value : ℕ)
    → low + done + count ≤ 8 * length bytes → done + count ≤ 128
    → 8 * byte + bit ≡ low + done → byte < length bytes → bit + count ≤ 8
    → value ≡ num (range low done (bits_of_bytes bytes))
    → bit_or value (get_or bytes byte 0 / 2 ^ bit % 2 ^ count * 2 ^ done % 2 ^ 128) ≡ num (range low (done + count) (bits_of_bytes bytes))
read_step bytes low done byte bit count value within narrow at lt inside so_far =
    let piece = get_or bytes byte 0 / 2 ^ bit % 2 ^ count in
    let room : low + done ≤ length (bits_of_bytes bytes) = omega (arith, length-bits_of_bytes bytes) in
    let small : value < 2 ^ done =
    rw so_far (subst (λ (k : ℕ). num (range low done (bits_of_bytes bytes)) < 2 ^ k) (length-range low done (bits_of_bytes bytes) room)
    (num_below (range low done (bits_of_bytes bytes)) (IsBits-range low done (bits_of_bytes bytes) (IsBits-bits_of_bytes bytes)))) in
    let next : num (range (low + done) count (bits_of_bytes bytes)) ≡ piece =
    ap (λ (p : ℕ). num (range p count (bits_of_bytes bytes))) (sym at) ∙ num-in_byte bytes byte bit count lt inside in
    or_comm value (piece * 2 ^ done % 2 ^ 128)
    ∙ joined piece value count done (cut_below (get_or bytes byte 0 / 2 ^ bit) count) (omega arith) small
    ∙ omega (arith, so_far, ap (λ (n : ℕ). 2 ^ done * n) next, num-range-append low done count (bits_of_bytes bytes) room)

pub write_step : (old bytes : List ℕ) (low value done byte bit count new : ℕ)
    → low + done + count ≤ 8 * length old
    → 8 * byte + bit ≡ low + done → byte < length bytes → bit + count ≤ 8
    → bits_of_bytes bytes ≡ replaced low (bits done value) (bits_of_bytes old)
    → bits 8 new ≡ replaced bit (bits count (value / 2 ^ done % 2 ^ 8)) (bits 8 (get_or bytes byte 0))
    → bits_of_bytes (set bytes byte new) ≡ replaced low (bits (done + count) value) (bits_of_bytes old)
write_step old bytes low value done byte bit count new within at lt inside so_far is_new =
    let L = bits_of_bytes old in
    let now = bits_of_bytes bytes in
    let piece : bits count (value / 2 ^ done % 2 ^ 8) ≡ bits count (value / 2 ^ done) =
    let whole : 8 ≡ count + (8 - count) = omega arith in
    sym (take-bits count (8 - count) (value / 2 ^ done % 2 ^ 8))
    ∙ ap (λ (w : ℕ). take count (bits w (value / 2 ^ done % 2 ^ 8))) (sym whole)
    ∙ ap (take count) (bits-mod 8 (value / 2 ^ done))
    ∙ ap (λ (w : ℕ). take count (bits w (value / 2 ^ done))) whole
    ∙ take-bits count (8 - count) (value / 2 ^ done) in
    let len : length (bits done value) ≡ done = length-bits done value in
    let len_piece : length (bits count (value / 2 ^ done)) ≡ count = length-bits count (value / 2 ^ done) in
    set-byte byte new bytes lt
    ∙ ap (λ (l : List ℕ). replaced (8 * byte) l now) (is_new ∙ (λ i. replaced bit (piece i) (sym (range-byte byte bytes lt) i)))
    ∙ replaced-within bit (8 * byte) 8 (bits count (value / 2 ^ done)) now (omega arith) (omega (arith, length-bits_of_bytes bytes))
    ∙ (λ i. replaced (at i) (bits count (value / 2 ^ done)) (so_far i))
    ∙ ap (λ (k : ℕ). replaced (low + k) (bits count (value / 2 ^ done)) (replaced low (bits done value) L)) (sym len)
    ∙ sym (replaced-append low (bits done value) (bits count (value / 2 ^ done)) L (omega (arith, length-bits_of_bytes old)))
    ∙ ap (λ (l : List ℕ). replaced low l L) (sym (bits-append done count value))

-- one more part, read and written as a number
pub copy_step : (from old now : List ℕ) (at start m n : ℕ)
    → start + (m + n) ≤ 8 * length from → at + (m + n) ≤ 8 * length old
    → bits_of_bytes now ≡ replaced at (range start m (bits_of_bytes from)) (bits_of_bytes old)
    → replaced (at + m) (bits n (num (range (start + m) n (bits_of_bytes from)))) (bits_of_bytes now) ≡ replaced at (range start (m + n) (bits_of_bytes from)) (bits_of_bytes old)
copy_step from old now at start m n readable writable so_far =
    let F = bits_of_bytes from in
    let T = bits_of_bytes old in
    let first : length (range start m F) ≡ m = length-range start m F (omega (arith, length-bits_of_bytes from)) in
    let second : length (range (start + m) n F) ≡ n = length-range (start + m) n F (omega (arith, length-bits_of_bytes from)) in
    (λ i. replaced (at + sym first i) (bits-num-range (start + m) n F (IsBits-bits_of_bytes from) (omega (arith, length-bits_of_bytes from)) i) (so_far i))
    ∙ sym (replaced-append at (range start m F) (range (start + m) n F) T (omega (arith, length-bits_of_bytes old)))
    ∙ ap (λ (l : List ℕ). replaced at l T) (sym (range-append start m n F))

-- whole bytes copied are their bits copied
pub copied_bytes : (from old : List ℕ) (at start count : ℕ) → start + count ≤ length from → at + count ≤ length old
    → bits_of_bytes (replaced at (range start count from) old) ≡ replaced (8 * at) (range (8 * start) (8 * count) (bits_of_bytes from)) (bits_of_bytes old)
copied_bytes from old at start count readable writable =
    sym (replaced-bits_of_bytes at (range start count from) old (omega (arith, length-range start count from readable)))
    ∙ ap (λ (l : List ℕ). replaced (8 * at) l (bits_of_bytes old)) (sym (range-bits_of_bytes start count from readable))
