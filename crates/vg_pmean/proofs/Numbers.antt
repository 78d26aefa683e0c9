-- Whole numbers of any width, put together from 128 bits and repeated signs.
use Rattle.std.proofs.Common.{◌≡◌, inl, inr, ℕ, zero, suc, ◌+◌, ◌-◌, ◌*◌, ◌/◌, ◌%◌, ◌^◌, ◌<◌, ◌≤◌, List, ◌∷◌, ◌++◌, length, replicate, refl, sym, ap, ◌∙◌, arith}
use Rattle.std.specs.Prelude.{ℤ, pos, negsuc, min, Bool, true, false, if◌then◌else◌}
use Rattle.std.proofs.lemmas.Bool.{cases_lt}
use Rattle.std.proofs.Math.Nat.{pow-suc, mod-eq_of_lt}
use Rattle.std.proofs.lemmas.Nat.{pow_pos, pow-add}
use Rattle.std.proofs.lemmas.List.{length-replicate, replicate-append-replicate, append-nil}
use Rattle.vg_base.specs.Bits.{bits}
use Rattle.vg_base.specs.Number.{residue}
use Rattle.vg_base.proofs.Signed.{residue-low}
use Rattle.vg_bits.specs.Range.{replaced}
use Rattle.vg_bits.proofs.Ranges.{replaced-append}
use Rattle.vg_bits.proofs.BitLists.{bits-mod, bits-zero, bits-append, bits-concatenation}

-- all ones
pub bits-ones : (w k : ℕ) → bits w (2 ^ (w + k) - 1) ≡ replicate w 1
unfolding bits
bits-ones zero k = refl
bits-ones (suc w) k =
    let twice : 2 ^ (suc w + k) ≡ 2 * 2 ^ (w + k) = ap (λ (n : ℕ). 2 ^ n) (omega arith) ∙ (pow-suc 2 (w + k) ∙ omega arith) in
    let some : 0 < 2 ^ (w + k) = pow_pos (w + k) in
    let bit : (2 ^ (suc w + k) - 1) % 2 ≡ 1 = omega (arith, twice, some) in
    let rest : (2 ^ (suc w + k) - 1) / 2 ≡ 2 ^ (w + k) - 1 = omega (arith, twice, some) in
    (λ i. bit i ∷ (ap (bits w) rest ∙ bits-ones w k) i)

pub bits-full : (w : ℕ) → w ≤ 128 → bits w (2 ^ 128 - 1) ≡ replicate w 1
bits-full w small =
    let whole : 128 ≡ w + (128 - w) = omega arith in
    ap (λ (n : ℕ). bits w (2 ^ n - 1)) whole ∙ bits-ones w (128 - w)

pub repeated : (is_one : Bool) (w : ℕ) → w ≤ 128 → bits w (if is_one then 2 ^ 128 - 1 else 0) ≡ replicate w (if is_one then 1 else 0)
repeated true w small = bits-full w small
repeated false w small = bits-zero w

-- some more of the same
pub repeat_step : (old : List ℕ) (at done count b : ℕ) (new : List ℕ) → new ≡ replicate count b → at + done + count ≤ length old
    → replaced (at + done) new (replaced at (replicate done b) old) ≡ replaced at (replicate (done + count) b) old
repeat_step old at done count b new is fits =
    let here : at + done ≡ at + length (replicate done b) = omega (arith, length-replicate done b) in
    ap (λ (l : List ℕ). replaced (at + done) l (replaced at (replicate done b) old)) is
    ∙ ap (λ (n : ℕ). replaced n (replicate count b) (replaced at (replicate done b) old)) here
    ∙ sym (replaced-append at (replicate done b) (replicate count b) old (omega (arith, length-replicate done b, length-replicate count b)))
    ∙ ap (λ (l : List ℕ). replaced at l old) (replicate-append-replicate done count b)

-- two replacements side by side
pub replaced_both : (old xs ys : List ℕ) (at next : ℕ) → next ≡ at + length xs → at + length xs + length ys ≤ length old
    → replaced next ys (replaced at xs old) ≡ replaced at (xs ++ ys) old
replaced_both old xs ys at next is fits =
    ap (λ (n : ℕ). replaced n ys (replaced at xs old)) is ∙ sym (replaced-append at xs ys old fits)

-- ---- numbers

narrow : (w low : ℕ) (z : ℤ) → w ≤ 128 → low ≡ residue 128 z → bits w (residue w z) ≡ bits w low
narrow w low z small is = ap (bits w) (sym (residue-low 128 w z small)) ∙ bits-mod w (residue 128 z) ∙ ap (bits w) (sym is)

pub natural_bits : (w n : ℕ) → n < 2 ^ 128 → bits w (residue w (pos n)) ≡ bits (min w 128) n ++ replicate (w - min w 128) 0
natural_bits w n below = elim (cases_lt 128 w) [
  | inl wide ↦
      let count : min w 128 ≡ 128 = omega arith in
      let whole : w ≡ 128 + (w - 128) = omega arith in
      let above : n / 2 ^ 128 ≡ 0 = omega (arith, below) in
      bits-mod w n
      ∙ ap (λ (k : ℕ). bits k n) whole
      ∙ bits-append 128 (w - 128) n
      ∙ ap (λ (q : ℕ). bits 128 n ++ bits (w - 128) q) above
      ∙ ap (λ (l : List ℕ). bits 128 n ++ l) (bits-zero (w - 128))
      ∙ (λ i. bits (sym count i) n ++ replicate (w - sym count i) 0)
  | inr small ↦
      let count : min w 128 ≡ w = omega arith in
      let none : w - w ≡ 0 = omega arith in
      bits-mod w n
      ∙ sym (append-nil (bits w n))
      ∙ ap (λ (k : ℕ). bits w n ++ replicate k 0) (sym none)
      ∙ (λ i. bits (sym count i) n ++ replicate (w - sym count i) 0)
]

pub negative_bits : (w n : ℕ) → n < 2 ^ 128 → bits w (residue w (negsuc n)) ≡ bits (min w 128) (2 ^ 128 - 1 - n) ++ replicate (w - min w 128) 1
negative_bits w n below = elim (cases_lt 128 w) [
  | inl wide ↦
      let count : min w 128 ≡ 128 = omega arith in
      let k = w - 128 in
      let whole : w ≡ 128 + k = omega arith in
      let power : 2 ^ w ≡ 2 ^ 128 * 2 ^ k = ap (λ (m : ℕ). 2 ^ m) whole ∙ pow-add 2 128 k in
      let some : 0 < 2 ^ k = pow_pos k in
      let small : n % 2 ^ w ≡ n = mod-eq_of_lt (omega (arith, power, some, below)) in
      let low = 2 ^ 128 - 1 - n in
      let none : k ≡ k + 0 = omega arith in
      let same : 2 ^ w - 1 - n % 2 ^ w ≡ low % 2 ^ 128 + 2 ^ 128 * (2 ^ k - 1) = omega (arith, power, some, below, small) in
      (λ i. bits (whole i) (same i))
      ∙ bits-concatenation 128 k low (2 ^ k - 1)
      ∙ ap (λ (m : ℕ). bits 128 low ++ bits k (2 ^ m - 1)) none
      ∙ ap (λ (l : List ℕ). bits 128 low ++ l) (bits-ones k 0)
      ∙ (λ i. bits (sym count i) low ++ replicate (w - sym count i) 1)
  | inr small ↦
      let count : min w 128 ≡ w = omega arith in
      let none : w - w ≡ 0 = omega arith in
      let low : 2 ^ 128 - 1 - n ≡ residue 128 (negsuc n) = omega (arith, below) in
      narrow w (2 ^ 128 - 1 - n) (negsuc n) (omega arith) low
      ∙ sym (append-nil (bits w (2 ^ 128 - 1 - n)))
      ∙ ap (λ (k : ℕ). bits w (2 ^ 128 - 1 - n) ++ replicate k 1) (sym none)
      ∙ (λ i. bits (sym count i) (2 ^ 128 - 1 - n) ++ replicate (w - sym count i) 1)
]
