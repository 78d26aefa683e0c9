-- Laws of registers as lists of bits, in the terms of the calls: `num (range low w l)` is what get answers,
-- `replaced low (bits w v) l` what put leaves and `replaced low (range from w k) l` what a move leaves.
use Rattle.std.proofs.Common.{◌≡◌, ◌⊎◌, inl, inr, ℕ, ◌+◌, ◌*◌, ◌/◌, ◌%◌, ◌^◌, ◌≤◌, List, length, sym, ap, ◌∙◌, arith}
use Rattle.vg_base.specs.Bits.{bits, num}
use Rattle.vg_bits.specs.BitList.{IsBits}
use Rattle.vg_bits.specs.Range.{range, replaced}
use Rattle.vg_bits.proofs.Ranges.{length-replaced, range-replaced_inside, range-replaced_same, range-replaced_beside, replaced-range, replaced-append, replaced-replaced, replaced_apart}
use Rattle.vg_base.proofs.Bits.{length-bits, num-bits}
use Rattle.vg_bits.proofs.BitLists.{num-range-bits, num-range-append, bits-num-range, bits-concatenation}

module _ (low w v : ℕ) (l : List ℕ) (fits : low + w ≤ length l) where
  room : low + length (bits w v) ≤ length l
  room = omega (arith, length-bits w v)

  -- get of what was put
  pub get-put_same : num (range low w (replaced low (bits w v) l)) ≡ v % 2 ^ w
  get-put_same =
      ap (λ (n : ℕ). num (range low n (replaced low (bits w v) l))) (sym (length-bits w v))
      ∙ ap num (range-replaced_same low (bits w v) l room)
      ∙ num-bits w v

  -- get of a part of what was put
  pub get-put_inside : (at k : ℕ) → at + k ≤ w → num (range (low + at) k (replaced low (bits w v) l)) ≡ v / 2 ^ at % 2 ^ k
  get-put_inside at k inside =
      ap num (range-replaced_inside at k low (bits w v) l room (omega (arith, length-bits w v))) ∙ num-range-bits at k w v inside

  -- get beside what was put
  pub get-put_beside : (at k : ℕ) → at + k ≤ length l → (at + k ≤ low) ⊎ (low + w ≤ at) → num (range at k (replaced low (bits w v) l)) ≡ num (range at k l)
  get-put_beside at k within apart =
      let end : low + length (bits w v) ≡ low + w = ap (λ (n : ℕ). low + n) (length-bits w v) in
      ap num (range-replaced_beside at k low (bits w v) l room within (rw end apart))

  -- put after put in one place
  pub put-put_same : (u : ℕ) → replaced low (bits w v) (replaced low (bits w u) l) ≡ replaced low (bits w v) l
  put-put_same u = replaced-replaced low (bits w u) (bits w v) l (length-bits w u ∙ sym (length-bits w v)) (omega (arith, length-bits w u))

  -- puts that do not meet, in either order
  pub put-put_apart : (b k u : ℕ) → low + w ≤ b → b + k ≤ length l → replaced low (bits w v) (replaced b (bits k u) l) ≡ replaced b (bits k u) (replaced low (bits w v) l)
  put-put_apart b k u apart within =
      replaced_apart low b (bits w v) (bits k u) l (omega (arith, length-bits w v)) (omega (arith, length-bits k u))

  -- two puts side by side are one
  pub put-put_joined : (k u : ℕ) → low + w + k ≤ length l → replaced (low + w) (bits k u) (replaced low (bits w v) l) ≡ replaced low (bits (w + k) (v % 2 ^ w + 2 ^ w * u)) l
  put-put_joined k u within =
      ap (λ (n : ℕ). replaced (low + n) (bits k u) (replaced low (bits w v) l)) (sym (length-bits w v))
      ∙ sym (replaced-append low (bits w v) (bits k u) l (omega (arith, length-bits w v, length-bits k u)))
      ∙ ap (λ (new : List ℕ). replaced low new l) (sym (bits-concatenation w k v u))

-- get across what was put: below it, it, and above it
pub get-put_across : (at skip w k v : ℕ) (l : List ℕ) → at + (skip + w + k) ≤ length l → num (range at (skip + w + k) (replaced (at + skip) (bits w v) l)) ≡ num (range at skip l) + 2 ^ skip * (v % 2 ^ w) + 2 ^ (skip + w) * num (range (at + skip + w) k l)
get-put_across at skip w k v l within =
    let all = replaced (at + skip) (bits w v) l in
    let room : at + skip + length (bits w v) ≤ length l = omega (arith, length-bits w v) in
    let size : length all ≡ length l = length-replaced (at + skip) (bits w v) l room in
    let place : at + (skip + w) ≡ at + skip + w = omega arith in
    let below : num (range at skip all) ≡ num (range at skip l) = get-put_beside (at + skip) w v l (omega arith) at skip (omega arith) (inl (omega arith)) in
    let above : num (range (at + (skip + w)) k all) ≡ num (range (at + skip + w) k l) =
    ap (λ (p : ℕ). num (range p k all)) place ∙ get-put_beside (at + skip) w v l (omega arith) (at + skip + w) k (omega arith) (inr (omega arith)) in
    num-range-append at (skip + w) k all (omega arith)
    ∙ (λ i. (num-range-append at skip w all (omega arith) ∙ (λ j. below j + 2 ^ skip * get-put_same (at + skip) w v l (omega arith) j)) i + 2 ^ (skip + w) * above i)

-- to put back what was got changes nothing
pub put-get : (low w : ℕ) (l : List ℕ) → IsBits l → low + w ≤ length l → replaced low (bits w (num (range low w l))) l ≡ l
put-get low w l p fits = ap (λ (new : List ℕ). replaced low new l) (bits-num-range low w l p fits) ∙ replaced-range low w l fits

-- a move is a get and a put
pub move-get-put : (low from w : ℕ) (k l : List ℕ) → IsBits k → from + w ≤ length k → replaced low (range from w k) l ≡ replaced low (bits w (num (range from w k))) l
move-get-put low from w k l p fits = ap (λ (new : List ℕ). replaced low new l) (sym (bits-num-range from w k p fits))
