-- Lists in which each number stands equally often are the same in another order.
use Rattle.std.proofs.Common.{◌≡◌, ℕ, ◌+◌, List, [], ◌∷◌, ◌++◌, length, map, refl, sym, ap, ◌∙◌, arith, append_assoc, get_or}
use Rattle.std.specs.Prelude.{remove, sum_by, ◌==◌}
use Rattle.std.specs.List.Sorted.{IsPermutation}
use Rattle.std.proofs.lemmas.Bool.{eq-eqb}
use Rattle.std.proofs.lemmas.List.{get_or_default, length_push}
use Rattle.std.proofs.lemmas.List.Sorted.{IsPermutation-cons, IsPermutation-refl, IsPermutation-remove, IsPermutation-sym, IsPermutation-trans, sum_by-IsPermutation}
use Rattle.std.proofs.lemmas.List.Sums.{sum_by-cons}
use Rattle.vg_shapes.specs.Order.{count_of, numbers_from, one_if}
use Rattle.vg_order.proofs.Counts.{stands_where}

count_of-sum : (n : ℕ) (xs : List ℕ) → count_of n xs ≡ sum_by (λ x. one_if (n == x)) xs
count_of-sum n [] = refl
count_of-sum n (x ∷ xs) = ap (λ k. one_if (n == x) + k) (count_of-sum n xs) ∙ sym (sum_by-cons (λ y. one_if (n == y)) x xs)

count_of-permuted : (n : ℕ) (xs ys : List ℕ) → IsPermutation xs ys → count_of n ys ≡ count_of n xs
count_of-permuted n xs ys p = count_of-sum n ys ∙ sum_by-IsPermutation (λ x. one_if (n == x)) xs ys p ∙ sym (count_of-sum n xs)

pub permutation-counts : (xs ys : List ℕ) → ((n : ℕ) → count_of n xs ≡ count_of n ys) → IsPermutation xs ys
permutation-counts [] [] h = IsPermutation-refl []
permutation-counts [] (y ∷ ys) h = absurd (let c = h y in let one : one_if (y == y) ≡ 1 = ap one_if (eq-eqb y y refl) in omega arith)
permutation-counts (x ∷ xs) ys h =
    let one : one_if (x == x) ≡ 1 = ap one_if (eq-eqb x x refl) in
    let at = stands_where x ys (let c = h x in omega arith) in
    let here : x ≡ get_or ys at.0 x = sym at.2 ∙ get_or_default ys at.0 0 x at.1 in
    let taken : IsPermutation ys (x ∷ remove ys at.0) = IsPermutation-remove ys at.0 x at.1 here in
    let rest = permutation-counts xs (remove ys at.0) (λ n. (let c = h n in let d = count_of-permuted n ys (x ∷ remove ys at.0) taken in omega arith)) in
    IsPermutation-trans (x ∷ xs) (x ∷ remove ys at.0) ys (IsPermutation-cons x xs (remove ys at.0) rest) (IsPermutation-sym ys (x ∷ remove ys at.0) taken)

-- all members of a list by their indexes
all-at : {A : Type 0} (d : A) (done xs : List A) → map (λ n. get_or (done ++ xs) n d) (numbers_from (length done) (length xs)) ≡ xs
all-at d done [] = refl
all-at d done (x ∷ xs) =
    let next : length done + 1 ≡ length (done ++ x ∷ []) = sym (length_push done x) in
    let same : done ++ (x ∷ xs) ≡ (done ++ x ∷ []) ++ xs = sym (append_assoc done (x ∷ []) xs) in
    (λ i. get_or_seam done x xs d i ∷ map (λ n. get_or (same i) n d) (numbers_from (next i) (length xs)))
    ∙ ap (λ l. x ∷ l) (all-at d (done ++ x ∷ []) xs)
  where
    get_or_seam : {A : Type 0} (done : List A) (x : A) (xs : List A) (d : A) → get_or (done ++ (x ∷ xs)) (length done) d ≡ x
    get_or_seam [] x xs d = refl
    get_or_seam (e ∷ done) x xs d = get_or_seam done x xs d

pub all-members : {A : Type 0} (d : A) (xs : List A) → map (λ n. get_or xs n d) (numbers_from 0 (length xs)) ≡ xs
all-members d xs = all-at d [] xs
