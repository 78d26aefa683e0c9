-- Steps of all pointers, and of those that have one: each is told by the other.
use Rattle.std.proofs.Common.{◌≡◌, ℕ, zero, suc, ◌+◌, ◌<◌, ◌≤◌, ◌==◌, Bool, true, false, cond, List, [], ◌∷◌, length, refl, sym, ap, subst, ◌∙◌, inl, inr, arith}
use Rattle.std.specs.List.{AllByRecursion}
use Rattle.std.proofs.lemmas.Bool.{cases_Bool, cond-true, cond-false, eqb-true, eqb-false, eq-eqb, ne_eqb}
use Rattle.vg_program.specs.declared.param.Param.{Param}
use Rattle.vg_program.specs.Params.{pointers}
use Rattle.vg_looped.specs.Steps.{Pair, stepped, steps_of}
use Rattle.vg_looped.specs.Looped.{ArePairs}

pub length-steps : (k n : ℕ) (xs : List Pair) → length (steps_of k n xs) ≡ n
unfolding steps_of
length-steps k zero xs = refl
length-steps k (suc n) [] = ap suc (length-steps (k + 1) n [])
length-steps k (suc n) (x ∷ xs) = by (x.0 == k) (length-steps (k + 1) n xs) (length-steps (k + 1) n (x ∷ xs))
  where
    by : (b : Bool) → length (steps_of (k + 1) n xs) ≡ n → length (steps_of (k + 1) n (x ∷ xs)) ≡ n → length (cond b (x.1 ∷ steps_of (k + 1) n xs) (0 ∷ steps_of (k + 1) n (x ∷ xs))) ≡ suc n
    by true a b = ap suc a
    by false a b = ap suc b

pub near-steps : (params : List Param) (least k n : ℕ) (xs : List Pair) → ArePairs params least xs → AllByRecursion (λ s. s ≤ 65536) (steps_of k n xs)
unfolding steps_of ArePairs
near-steps params least k zero xs are = tt
near-steps params least k (suc n) [] are = (omega arith, near-steps params least (k + 1) n [] are)
near-steps params least k (suc n) (x ∷ xs) are = by (x.0 == k) (near-steps params (x.0 + 1) (k + 1) n xs are.1) (near-steps params least (k + 1) n (x ∷ xs) are)
  where
    by : (b : Bool) → AllByRecursion (λ s. s ≤ 65536) (steps_of (k + 1) n xs) → AllByRecursion (λ s. s ≤ 65536) (steps_of (k + 1) n (x ∷ xs)) → AllByRecursion (λ s. s ≤ 65536) (cond b (x.1 ∷ steps_of (k + 1) n xs) (0 ∷ steps_of (k + 1) n (x ∷ xs)))
    by true a b = (are.0.3, a)
    by false a b = (omega arith, b)

none-stepped : (k n : ℕ) → stepped k (steps_of k n []) ≡ []
unfolding stepped steps_of
none-stepped k zero = refl
none-stepped k (suc n) = none-stepped (k + 1) n

-- pairs from k on, as steps, are these pairs
pub pairs-back : (params : List Param) (k n : ℕ) (xs : List Pair) → k + n ≡ length (pointers params) → ArePairs params k xs → stepped k (steps_of k n xs) ≡ xs
unfolding stepped steps_of ArePairs
pairs-back params k zero [] e are = refl
pairs-back params k zero (x ∷ xs) e are = absurd (let a = are.0.0 in let b = are.0.1 in omega (arith, a, b, e))
pairs-back params k (suc n) [] e are = none-stepped (k + 1) n
pairs-back params k (suc n) (x ∷ xs) e are = elim (cases_Bool (x.0 == k)) [
  | inl here ↦
      let at_k = eqb-true x.0 k here in
      let some : (x.1 == 0) ≡ false = ne_eqb x.1 0 (λ z. let one = are.0.2 in absurd (omega (arith, z, one))) in
      let more = pairs-back params (k + 1) n xs (omega (arith, e)) (subst (λ (j : ℕ). ArePairs params (j + 1) xs) at_k are.1) in
      ap (stepped k) (cond-true _ _ _ here) ∙ cond-false _ _ _ some ∙ (λ i. (sym at_k i, x.1) ∷ more i)
  | inr later ↦
      let apart = eqb-false x.0 k later in
      let next : k + 1 ≤ x.0 = above k x.0 are.0.0 (λ q. apart (sym q)) in
      ap (stepped k) (cond-false _ _ _ later) ∙ pairs-back params (k + 1) n (x ∷ xs) (omega (arith, e)) ((next, are.0.1, are.0.2, are.0.3), are.1)
]
  where
    above : (a b : ℕ) → a ≤ b → (a ≡ b → ⊥) → a + 1 ≤ b
    above zero zero h g = absurd (g refl)
    above zero (suc b) h g = omega arith
    above (suc a) zero h g = absurd (omega (arith, h))
    above (suc a) (suc b) h g = (let r = above a b (omega (arith, h)) (λ e. g (ap suc e)) in omega (arith, r))

-- pairs after k leave no step to it
later-pairs : (j : ℕ) (xs : List Pair) → Type 0
later-pairs j [] = Unit {0}
later-pairs j (x ∷ xs) = j ≤ x.0

stepped-later : (k : ℕ) (ss : List ℕ) → later-pairs k (stepped k ss)
unfolding stepped later-pairs
stepped-later k [] = tt
stepped-later k (s ∷ ss) = by (s == 0) (weaker (stepped (k + 1) ss) (stepped-later (k + 1) ss))
  where
    weaker : (xs : List Pair) → later-pairs (k + 1) xs → later-pairs k xs
    weaker [] h = tt
    weaker (x ∷ xs) h = omega (arith, h)

    by : (b : Bool) → later-pairs k (stepped (k + 1) ss) → later-pairs k (cond b (stepped (k + 1) ss) ((k, s) ∷ stepped (k + 1) ss))
    by true h = h
    by false h = omega arith

skipped : (k n : ℕ) (xs : List Pair) → later-pairs (k + 1) xs → steps_of k (suc n) xs ≡ 0 ∷ steps_of (k + 1) n xs
unfolding steps_of later-pairs
skipped k n [] h = refl
skipped k n (x ∷ xs) h = cond-false _ _ _ (ne_eqb x.0 k (λ e. absurd (omega (arith, h, e))))

-- steps, as pairs, are these steps
pub steps-back : (k : ℕ) (ss : List ℕ) → steps_of k (length ss) (stepped k ss) ≡ ss
unfolding stepped steps_of
steps-back k [] = refl
steps-back k (s ∷ ss) = elim (cases_Bool (s == 0)) [
  | inl none ↦
      ap (steps_of k (suc (length ss))) (cond-true _ _ _ none) ∙ skipped k (length ss) (stepped (k + 1) ss) (stepped-later (k + 1) ss)
      ∙ (λ i. sym (eqb-true s 0 none) i ∷ steps-back (k + 1) ss i)
  | inr some ↦
      ap (steps_of k (suc (length ss))) (cond-false _ _ _ some) ∙ cond-true _ _ _ (eq-eqb k k refl) ∙ ap (λ l. s ∷ l) (steps-back (k + 1) ss)
]

-- steps in their range make pairs that keep the rules
pub pairs-are : (params : List Param) (k : ℕ) (ss : List ℕ) → k + length ss ≡ length (pointers params) → AllByRecursion (λ s. s ≤ 65536) ss → ArePairs params k (stepped k ss)
unfolding stepped ArePairs
pairs-are params k [] e near = tt
pairs-are params k (s ∷ ss) e near = elim (cases_Bool (s == 0)) [
  | inl none ↦ subst (ArePairs params k) (sym (cond-true _ _ _ none)) (weaker (stepped (k + 1) ss) (pairs-are params (k + 1) ss (omega (arith, e)) near.1))
  | inr some ↦
      let apart = eqb-false s 0 some in
      subst (ArePairs params k) (sym (cond-false _ _ _ some)) ((omega arith, omega (arith, e), positive s apart, near.0), pairs-are params (k + 1) ss (omega (arith, e)) near.1)
]
  where
    positive : (s : ℕ) → (s ≡ 0 → ⊥) → 1 ≤ s
    positive zero h = absurd (h refl)
    positive (suc s) h = omega arith

    weaker : (xs : List Pair) → ArePairs params (k + 1) xs → ArePairs params k xs
    weaker [] h = tt
    weaker (x ∷ xs) h = (((let l = h.0.0 in omega (arith, l)), h.0.1, h.0.2, h.0.3), h.1)
