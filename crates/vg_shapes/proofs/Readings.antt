-- The environment of registers reads ranges of their bits.
use Rattle.std.proofs.Common.{◌≡◌, ◌≢◌, ℕ, zero, suc, ◌+◌, ◌%◌, ◌^◌, ◌<◌, ◌≤◌, true, false, List, [], ◌∷◌, ◌++◌, length, take, drop, refl, sym, ap, ◌∙◌, inl, inr, arith, get_or, div-one}
use Rattle.std.specs.Prelude.{nat_eq}
use Rattle.std.proofs.lemmas.Bool.{cond-true, cond-false, eq-eqb, ne_eqb, cases_lt}
use Rattle.std.proofs.lemmas.List.{take_all}
use Rattle.vg_base.specs.Bits.{num}
use Rattle.vg_bits.specs.BitList.{IsBits}
use Rattle.vg_bits.proofs.BitLists.{num_below, IsBits-drop, num-range}
use Rattle.vg_base.proofs.LowBits.{pow-le}
use Rattle.std.proofs.Math.Nat.{mod-eq_of_lt}
use Rattle.vg_terms.specs.declared.term.LeafKey.{LeafKey}
use Rattle.vg_terms.specs.Value.{same_key, number_at}
use Rattle.vg_shapes.specs.Registers.{bits_key, reading_from, readings_from, AllBits, LeavesRead}

key-itself : (p low : ℕ) → same_key (bits_key p low) (bits_key p low) ≡ true
key-itself p low = let a : nat_eq p p ≡ true = eq-eqb p p refl in let b : nat_eq low low ≡ true = eq-eqb low low refl in grind (arith, a, b)

key-other-bit : (p low high : ℕ) → low ≢ high → same_key (bits_key p low) (bits_key p high) ≡ false
key-other-bit p low high h = let b : nat_eq low high ≡ false = ne_eqb low high h in let a : nat_eq p p ≡ true = eq-eqb p p refl in grind (arith, a, b)

key-other-parameter : (p q low high : ℕ) → p ≢ q → same_key (bits_key p low) (bits_key q high) ≡ false
key-other-parameter p q low high h = let b : nat_eq p q ≡ false = ne_eqb p q h in grind (arith, b)

-- ---- within a register, and after its end

reading-at : (p first low : ℕ) (l : List ℕ) (rest : List (LeafKey × ℕ)) → low < length l → number_at (reading_from p first l ++ rest) (bits_key p (first + low)) ≡ num (drop low l)
reading-at p first low [] rest h = absurd (omega arith)
reading-at p first zero (b ∷ bs) rest h =
    let here : first + 0 ≡ first = omega arith in
    cond-true _ _ _ (ap (λ k. same_key (bits_key p first) (bits_key p k)) here ∙ key-itself p first)
reading-at p first (suc low) (b ∷ bs) rest h =
    let next : first + suc low ≡ first + 1 + low = omega arith in
    cond-false _ _ _ (key-other-bit p first (first + suc low) (omega arith))
    ∙ ap (λ k. number_at (reading_from p (first + 1) bs ++ rest) (bits_key p k)) next
    ∙ reading-at p (first + 1) low bs rest (omega arith)

reading-behind : (p first low : ℕ) (l : List ℕ) (rest : List (LeafKey × ℕ)) → first + length l ≤ low → number_at (reading_from p first l ++ rest) (bits_key p low) ≡ number_at rest (bits_key p low)
reading-behind p first low [] rest h = refl
reading-behind p first low (b ∷ bs) rest h = cond-false _ _ _ (key-other-bit p first low (omega arith)) ∙ reading-behind p (first + 1) low bs rest (omega arith)

reading-other : (p q first low : ℕ) (l : List ℕ) (rest : List (LeafKey × ℕ)) → p ≢ q → number_at (reading_from p first l ++ rest) (bits_key q low) ≡ number_at rest (bits_key q low)
reading-other p q first low [] rest h = refl
reading-other p q first low (b ∷ bs) rest h = cond-false _ _ _ (key-other-parameter p q first low h) ∙ reading-other p q (first + 1) low bs rest h

-- no reading of an earlier parameter
readings-before : (first q low : ℕ) (regs : List (List ℕ)) → q < first → number_at (readings_from first regs) (bits_key q low) ≡ 0
readings-before first q low [] h = refl
readings-before first q low (reg ∷ regs) h =
    reading-other first q 0 low reg (readings_from (first + 1) regs) (omega arith) ∙ readings-before (first + 1) q low regs (omega arith)

drop-past : (n : ℕ) (l : List ℕ) → length l ≤ n → drop n l ≡ []
drop-past zero [] h = refl
drop-past (suc n) [] h = refl
drop-past zero (x ∷ l) h = absurd (omega arith)
drop-past (suc n) (x ∷ l) h = drop-past n l (omega arith)

none-dropped : (n : ℕ) (l : List ℕ) → length l ≤ n → num (drop n l) ≡ 0
unfolding num
none-dropped n l h = ap num (drop-past n l h)

from_zero : (n : ℕ) → n ≡ 0 + n
from_zero n = omega arith

-- each key has the number of all bits from there on
readings-at : (first p low : ℕ) (regs : List (List ℕ)) → number_at (readings_from first regs) (bits_key (first + p) low) ≡ num (drop low (get_or regs p []))
readings-at first p low [] = sym (none-dropped low [] (omega arith))
readings-at first zero low (reg ∷ regs) =
    let here : first + 0 ≡ first = omega arith in
    ap (λ k. number_at (reading_from first 0 reg ++ readings_from (first + 1) regs) (bits_key k low)) here
    ∙ elim (cases_lt low (length reg)) [
      | inl h ↦ ap (λ k. number_at (reading_from first 0 reg ++ readings_from (first + 1) regs) (bits_key first k)) (from_zero low)
          ∙ reading-at first 0 low reg (readings_from (first + 1) regs) h
      | inr h ↦ reading-behind first 0 low reg (readings_from (first + 1) regs) (omega arith)
          ∙ readings-before (first + 1) first low regs (omega arith) ∙ sym (none-dropped low reg (omega arith))
    ]
readings-at first (suc p) low (reg ∷ regs) =
    let next : first + suc p ≡ first + 1 + p = omega arith in
    reading-other first (first + suc p) 0 low reg (readings_from (first + 1) regs) (omega arith)
    ∙ ap (λ k. number_at (readings_from (first + 1) regs) (bits_key k low)) next
    ∙ readings-at (first + 1) p low regs

register_bits : (regs : List (List ℕ)) (p : ℕ) → AllBits regs → IsBits (get_or regs p [])
register_bits [] p h = tt
register_bits (l ∷ ls) zero h = h.0
register_bits (l ∷ ls) (suc p) h = register_bits ls p h.1

-- the low bits of the number of a list
low-num : (n : ℕ) (l : List ℕ) → IsBits l → num l % 2 ^ n ≡ num (take n l)
low-num n l h = elim (cases_lt n (suc (length l))) [
  | inl f ↦ sym (num-range 0 n l h (omega arith) ∙ ap (λ v. v % 2 ^ n) (div-one (num l)))
  | inr f ↦
      mod-eq_of_lt (omega (arith, num_below l h, pow-le (length l) n (omega arith))) ∙ ap num (sym (take_all n l (omega arith)))
]

pub leaves-read : LeavesRead
leaves-read regs h p low width =
    let start : p ≡ 0 + p = omega arith in
    ap (λ k. number_at (readings_from 0 regs) (bits_key k low) % 2 ^ width) start
    ∙ ap (λ n. n % 2 ^ width) (readings-at 0 p low regs)
    ∙ low-num width (drop low (get_or regs p [])) (IsBits-drop low (get_or regs p []) (register_bits regs p h))
