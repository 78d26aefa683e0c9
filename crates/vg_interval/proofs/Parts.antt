-- The number of a part of a list of bits, also where the part goes past the end of the list.
use Rattle.std.proofs.Common.{◌≡◌, ℕ, zero, suc, ◌+◌, ◌*◌, ◌/◌, ◌%◌, ◌^◌, ◌<◌, refl, ap, ◌∙◌, sym, subst, arith, inl, inr, List, [], ◌∷◌, length, drop}
use Rattle.std.proofs.lemmas.Bool.{cases_lt}
use Rattle.std.proofs.lemmas.List.{take_all, length-drop}
use Rattle.std.proofs.lemmas.Nat.{shr-shr}
use Rattle.std.proofs.Math.Nat.{mod-eq_of_lt}
use Rattle.vg_base.specs.Bits.{num}
use Rattle.vg_bits.specs.BitList.{IsBits}
use Rattle.vg_bits.specs.Range.{range}
use Rattle.vg_bits.proofs.BitLists.{num-range, num-range_below}

num-drop : (k : ℕ) (l : List ℕ) → IsBits l → num (drop k l) ≡ num l / 2 ^ k
unfolding num
num-drop zero l h = let e : num l ≡ num l / 2 ^ 0 = omega arith in e
num-drop (suc k) [] h = let e : 0 ≡ 0 / 2 ^ suc k = nothing (2 ^ suc k) in e
  where
    nothing : (n : ℕ) → 0 ≡ 0 / n
    nothing zero = refl
    nothing (suc n) = omega arith
num-drop (suc k) (b ∷ bs) h =
    let half : (b + 2 * num bs) / 2 ≡ num bs = omega (arith, h.0) in
    num-drop k bs h.1 ∙ ap (λ n. n / 2 ^ k) (sym half) ∙ shr-shr (b + 2 * num bs) 1 k ∙ ap (λ j. (b + 2 * num bs) / 2 ^ j) (omega arith)

-- so many bits from one on
pub num-part : (low width : ℕ) (l : List ℕ) → IsBits l → num (range low width l) ≡ num l / 2 ^ low % 2 ^ width
num-part low width l h = elim (cases_lt (length l) (low + width)) [
  | inr fits ↦ num-range low width l h fits
  | inl past ↦
      let all : range low width l ≡ drop low l = take_all width (drop low l) (omega (arith, length-drop low l, past)) in
      let e : num (range low width l) ≡ num l / 2 ^ low = ap num all ∙ num-drop low l h in
      e ∙ sym (mod-eq_of_lt (subst (λ n. n < 2 ^ width) e (num-range_below low width l h)))
]
