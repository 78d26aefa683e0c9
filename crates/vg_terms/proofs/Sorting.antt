-- Rising lists of terms: putting in, sorting, and that a list of terms has one rising order.
use Rattle.std.proofs.Common.{◌≡◌, ℕ, suc, ◌+◌, ◌<◌, true, false, List, [], ◌∷◌, length, refl, sym, ap, ◌∙◌, subst, arith, inl, inr}
use Rattle.std.specs.Prelude.{not, if◌then◌else◌, slice_index_or, sum_by}
use Rattle.std.specs.declared.cmp.Ordering.{Ordering}
use Rattle.std.specs.declared.cmp.Ordering.TheVariants.{Less, Equal, Greater}
use Rattle.std.specs.Ordering.{is_gt, is_lt, ordering_reverse}
use Rattle.std.specs.List.Sorted.{IsPermutation, IsSorted}
use Rattle.std.proofs.lemmas.Bool.{cases_Bool, cond-true, cond-false, and_parts, and_from, not-true, not_from_false}
use Rattle.std.proofs.lemmas.Cmp.{upto, tied_itself}
use Rattle.std.proofs.lemmas.List.Sorted.{sum_by-IsPermutation}
use Rattle.std.proofs.lemmas.List.Sums.{sum_by-cons}
use Rattle.vg_terms.specs.Term.{Tree}
use Rattle.vg_terms.specs.Order.{order}
use Rattle.vg_terms.specs.Chain.{not_after, rising_from, rising, put_in, sorted}
use Rattle.vg_terms.proofs.Orders.{order_total, order-equal}

pub not_after_trans : (x y z : Tree) → not_after x y ≡ true → not_after y z ≡ true → not_after x z ≡ true
not_after_trans x y z p q =
    not_from_false _ (upto order_total x y z (not-true _ p) (not-true _ q))

pub not_after_itself : (x : Tree) → not_after x x ≡ true
not_after_itself x = ap (λ o. not (is_gt o)) (tied_itself order_total x)

turned : (o p : Ordering) → o ≡ ordering_reverse p → not (is_gt o) ≡ false → not (is_gt p) ≡ true
turned o Less e h = refl
turned o Equal e h = refl
turned o Greater e h = absurd (let k : not (is_gt o) ≡ true = ap (λ v. not (is_gt v)) e in cc)

-- of two terms one is not after the other
pub not_after_turned : (x y : Tree) → not_after x y ≡ false → not_after y x ≡ true
not_after_turned x y h = turned (order x y) (order y x) (order_total.antisymm x y) h

tie : (o p : Ordering) → o ≡ ordering_reverse p → not (is_gt o) ≡ true → not (is_gt p) ≡ true → o ≡ Equal
tie o Less e h g = absurd (let k : not (is_gt o) ≡ false = ap (λ v. not (is_gt v)) e in cc)
tie o Equal e h g = e
tie o Greater e h g = absurd (cc)

-- neither after the other, two terms are one
pub not_after_both : (x y : Tree) → not_after x y ≡ true → not_after y x ≡ true → x ≡ y
not_after_both x y h g = order-equal x y (tie (order x y) (order y x) (order_total.antisymm x y) h g)

put_in-first : (p q : Tree) (ps : List Tree) → not_after p q ≡ true → put_in p (q ∷ ps) ≡ p ∷ (q ∷ ps)
put_in-first p q ps h = cond-true _ _ _ h

put_in-later : (p q : Tree) (ps : List Tree) → not_after p q ≡ false → put_in p (q ∷ ps) ≡ q ∷ put_in p ps
put_in-later p q ps h = cond-false _ _ _ h

rising-put_from : (q p : Tree) (ps : List Tree) → rising_from q ps ≡ true → not_after q p ≡ true → rising_from q (put_in p ps) ≡ true
rising-put_from q p [] h g = and_from _ _ g refl
rising-put_from q p (r ∷ ps) h g =
    let parts = and_parts (not_after q r) (rising_from r ps) h in
    elim (cases_Bool (not_after p r)) [
      | inl t ↦ subst (λ l. rising_from q l ≡ true) (sym (put_in-first p r ps t)) (and_from _ _ g (and_from _ _ t parts.1))
      | inr f ↦ subst (λ l. rising_from q l ≡ true) (sym (put_in-later p r ps f)) (and_from _ _ parts.0 (rising-put_from r p ps parts.1 (not_after_turned p r f)))
    ]

pub rising-put_in : (p : Tree) (ps : List Tree) → rising ps ≡ true → rising (put_in p ps) ≡ true
rising-put_in p [] h = refl
rising-put_in p (q ∷ ps) h =
    elim (cases_Bool (not_after p q)) [
      | inl t ↦ subst (λ l. rising l ≡ true) (sym (put_in-first p q ps t)) (and_from _ _ t h)
      | inr f ↦ subst (λ l. rising l ≡ true) (sym (put_in-later p q ps f)) (rising-put_from q p ps h (not_after_turned p q f))
    ]

pub rising-sorted : (ps : List Tree) → rising (sorted ps) ≡ true
rising-sorted [] = refl
rising-sorted (p ∷ ps) = rising-put_in p (sorted ps) (rising-sorted ps)

-- the sum of a number of each term
abbrev pub total_by : (Tree → ℕ) → List Tree → ℕ
total_by f [] = 0
total_by f (p ∷ ps) = f p + total_by f ps

pub total_by-sum_by : (f : Tree → ℕ) (ps : List Tree) → total_by f ps ≡ sum_by f ps
total_by-sum_by f [] = refl
total_by-sum_by f (p ∷ ps) = ap (λ n. f p + n) (total_by-sum_by f ps) ∙ sym (sum_by-cons f p ps)

pub total_by-put_in : (f : Tree → ℕ) (p : Tree) (ps : List Tree) → total_by f (put_in p ps) ≡ f p + total_by f ps
total_by-put_in f p [] = refl
total_by-put_in f p (q ∷ ps) =
    elim (cases_Bool (not_after p q)) [
      | inl t ↦ ap (total_by f) (put_in-first p q ps t)
      | inr e ↦ ap (total_by f) (put_in-later p q ps e) ∙ omega (arith, total_by-put_in f p ps)
    ]

pub total_by-sorted : (f : Tree → ℕ) (ps : List Tree) → total_by f (sorted ps) ≡ total_by f ps
total_by-sorted f [] = refl
total_by-sorted f (p ∷ ps) = total_by-put_in f p (sorted ps) ∙ ap (λ n. f p + n) (total_by-sorted f ps)

-- 1 for a term that is not after x
abbrev up_to : Tree → Tree → ℕ
up_to x t = if not_after t x then 1 else 0

-- a rising list that begins after x has no term up to x
none_up_to : (x y : Tree) (ys : List Tree) → rising_from y ys ≡ true → not_after y x ≡ false → total_by (up_to x) (y ∷ ys) ≡ 0
none_up_to x y [] h g = let e : up_to x y ≡ 0 = cond-false _ _ _ g in omega (arith, e)
none_up_to x y (r ∷ ys) h g =
    let e : up_to x y ≡ 0 = cond-false _ _ _ g in
    let parts = and_parts (not_after y r) (rising_from r ys) h in
    let later : not_after r x ≡ false = elim (cases_Bool (not_after r x)) [ inl t ↦ absurd (let k = not_after_trans y r x parts.0 t in cc) | inr f ↦ f ] in
    omega (arith, e, none_up_to x r ys parts.1 later)

-- the first of one list is not after the first of the other
first_up_to : (x y : Tree) (xs ys : List Tree) → rising_from y ys ≡ true → total_by (up_to x) (x ∷ xs) ≡ total_by (up_to x) (y ∷ ys) → not_after y x ≡ true
first_up_to x y xs ys h e =
    elim (cases_Bool (not_after y x)) [
      | inl t ↦ t
      | inr f ↦ absurd (let one : up_to x x ≡ 1 = cond-true _ _ _ (not_after_itself x) in let none = none_up_to x y ys h f in omega (arith, one, none))
    ]

rising_tail : (p : Tree) (ps : List Tree) → rising_from p ps ≡ true → rising ps ≡ true
rising_tail p [] h = refl
rising_tail p (q ∷ ps) h = (and_parts (not_after p q) (rising_from q ps) h).1

-- two rising lists with equal sums of whatever numbers of their terms are one list
pub one_rising : (xs ys : List Tree) → rising xs ≡ true → rising ys ≡ true → ((f : Tree → ℕ) → total_by f xs ≡ total_by f ys) → xs ≡ ys
one_rising [] [] h g e = refl
one_rising [] (y ∷ ys) h g e = absurd (let k = e (λ t. 1) in omega (arith, k))
one_rising (x ∷ xs) [] h g e = absurd (let k = e (λ t. 1) in omega (arith, k))
one_rising (x ∷ xs) (y ∷ ys) h g e =
    let same : x ≡ y = not_after_both x y (first_up_to y x ys xs h (sym (e (up_to y)))) (first_up_to x y xs ys g (e (up_to x))) in
    let rest : xs ≡ ys = one_rising xs ys (rising_tail x xs h) (rising_tail y ys g) (λ f. let k = e f in omega (arith, k, ap f same)) in
    ap (λ t. t ∷ xs) same ∙ ap (λ l. y ∷ l) rest

not_less : (o p : Ordering) → o ≡ ordering_reverse p → is_lt p ≡ false → not (is_gt o) ≡ true
not_less o Less e h = absurd (cc)
not_less o Equal e h = ap (λ v. not (is_gt v)) e
not_less o Greater e h = ap (λ v. not (is_gt v)) e

-- what a sort ensures, as a rising list
pub rising_from_sort : (ys : List Tree) → IsSorted order ys → rising ys ≡ true
rising_from_sort [] h = refl
rising_from_sort (p ∷ []) h = refl
rising_from_sort (p ∷ (q ∷ ps)) h =
    let first : is_lt (order q p) ≡ false = h 0 p (omega arith) (omega arith) in
    let ahead = not_less (order p q) (order q p) (order_total.antisymm p q) first in
    let rest = rising_from_sort (q ∷ ps) (λ k d _ l. let step : suc k + 1 < length (p ∷ (q ∷ ps)) = omega arith in let e : suc k + 1 ≡ suc (k + 1) = omega arith in subst (λ n. is_lt (order (slice_index_or (p ∷ (q ∷ ps)) n d) (slice_index_or (q ∷ ps) k d)) ≡ false) e (h (suc k) d (omega arith) step)) in
    and_from _ _ ahead rest

-- a list that was sorted, in whatever way, is the sorted list
pub sorted_once : (xs ys : List Tree) → IsPermutation xs ys → IsSorted order ys → ys ≡ sorted xs
sorted_once xs ys p s = one_rising ys (sorted xs) (rising_from_sort ys s) (rising-sorted xs) (λ f. total_by-sum_by f ys ∙ sum_by-IsPermutation f xs ys p ∙ sym (total_by-sum_by f xs) ∙ sym (total_by-sorted f xs))

-- sorting a rising list leaves it as it is
pub sorted-rising : (xs : List Tree) → rising xs ≡ true → sorted xs ≡ xs
sorted-rising xs h = one_rising (sorted xs) xs (rising-sorted xs) h (λ f. total_by-sorted f xs)
