-- Values sorted by their terms.
use Rattle.std.proofs.Common.{◌≡◌, ℕ, zero, suc, ◌+◌, Bool, true, false, List, [], ◌∷◌, Option, Some, None, length, get_or, map, cond, refl, sym, ap, subst, ◌∙◌, inl, inr, arith}
use Rattle.std.specs.Prelude.{◌&&◌, not, find, filter, slice_get}
use Rattle.std.proofs.lemmas.Iterator.Adapters.{position_from-zero}
use Rattle.std.specs.List.{position_from}
use Rattle.std.specs.declared.cmp.Ordering.{Ordering}
use Rattle.std.specs.declared.cmp.Ordering.TheVariants.{Less, Equal, Greater}
use Rattle.std.specs.Ordering.{is_eq, is_lt, ordering_reverse}
use Rattle.std.specs.Cmp.{IsStrictWeakOrder}
use Rattle.std.specs.List.{AllWithin}
use Rattle.std.specs.List.Sorted.{IsPartitionedBy, IsSortedBy, ties}
use Rattle.std.specs.Option.{option_map}
use Rattle.std.proofs.lemmas.Bool.{cases_Bool, both_ways, cond-true, cond-false}
use Rattle.std.proofs.lemmas.List.Sorted.{ranks_by, sorted_far}
use Rattle.vg_terms.specs.Order.{is_same_term, order}
use Rattle.vg_terms.specs.Term.{Tree, tree}
use Rattle.vg_terms.proofs.Orders.{order_total}
use Rattle.vg_match.specs.declared.least.ValueTerm.{ValueTerm}
use Rattle.vg_match.specs.Least.{AreSorted, has_term, is_before, least_with, numbered, pair_of}

pub before-orders : IsStrictWeakOrder is_before
before-orders = ranks_by order_total (λ (x : ValueTerm). tree x.term.now)

-- ---- what has a term

equal-answers : (a b : Ordering) → a ≡ ordering_reverse b → is_eq a ≡ (not (is_lt a) && not (is_lt b))
equal-answers Less b e = refl
equal-answers Equal Less e = absurd (cc)
equal-answers Equal Equal e = refl
equal-answers Equal Greater e = absurd (cc)
equal-answers Greater Less e = refl
equal-answers Greater Equal e = absurd (cc)
equal-answers Greater Greater e = absurd (cc)

pub same-term : (e x : ValueTerm) → has_term (tree e.term.now) x ≡ ties is_before e x
same-term e x = equal-answers (order (tree e.term.now) (tree x.term.now)) (order (tree x.term.now) (tree e.term.now)) (order_total.antisymm (tree e.term.now) (tree x.term.now))

-- those before a value are a front of sorted values
pub front-before : (e : ValueTerm) (xs : List ValueTerm) → IsSortedBy is_before xs → IsPartitionedBy (λ x. is_before x e) xs
front-before e xs s i j d le l t = elim (cases_Bool (is_before (get_or xs i d) e)) [
  | inl u ↦ u
  | inr f ↦ absurd (both_ways (is_before (get_or xs j d) e) (before-orders.chain (get_or xs j d) (get_or xs i d) e (sorted_far is_before before-orders xs s i j d le l) f) t)
]

-- ---- the first value with a term

abbrev pub if_it : (ValueTerm → Bool) → Option ValueTerm → Option ValueTerm
if_it p None = None
if_it p (Some x) = cond (p x) (Some x) None

module _ (e : ValueTerm) where
  abbrev has : ValueTerm → Bool
  has x = has_term (tree e.term.now) x

  before-not : (x : ValueTerm) → is_before x e ≡ true → has x ≡ false
  before-not x t = same-term e x ∙ ap (λ b. not (is_before e x) && not b) t ∙ last (not (is_before e x))
    where
      last : (b : Bool) → (b && false) ≡ false
      last true = refl
      last false = refl

  -- no value after one that is not before e, and has not its term, has it
  none-behind : (xs : List ValueTerm) → AllWithin (λ x. is_before e x ≡ true) xs 0 (length xs) → find has xs ≡ None
  none-behind [] h = refl
  none-behind (x ∷ xs) h =
      let f : has x ≡ false = same-term e x ∙ ap (λ b. not b && not (is_before x e)) (h 0 x (omega arith) (omega arith)) in
      cond-false (has x) (Some x) (find has xs) f ∙ none-behind xs (λ k d l b. h (suc k) d (omega arith) (omega arith))

  -- x is neither before e nor has its term, so e is before all that follow
  behind-rises : (x : ValueTerm) (xs : List ValueTerm) → IsSortedBy is_before (x ∷ xs) → is_before x e ≡ false → has x ≡ false → AllWithin (λ y. is_before e y ≡ true) xs 0 (length xs)
  behind-rises x xs s f h k d l b = elim (cases_Bool (is_before e (get_or xs k d))) [
    | inl t ↦ t
    | inr g ↦
        let far : is_before (get_or xs k d) x ≡ false = sorted_far is_before before-orders (x ∷ xs) s 0 (suc k) d (omega arith) (omega arith) in
        let under : is_before e x ≡ false = before-orders.chain e (get_or xs k d) x g far in
        absurd (both_ways (has x) h (same-term e x ∙ (λ i. not (under i) && not (f i))))
  ]

  tail-sorted : (x : ValueTerm) (xs : List ValueTerm) → IsSortedBy is_before (x ∷ xs) → IsSortedBy is_before xs
  tail-sorted x xs s k d l b =
      let next : suc k + 1 ≡ suc (k + 1) = omega arith in
      subst (λ n. is_before (get_or (x ∷ xs) n d) (get_or xs k d) ≡ false) next (s (suc k) d (omega arith) (omega arith))

  pub first-at : (xs : List ValueTerm) (k : ℕ) → IsSortedBy is_before xs → AllWithin (λ x. is_before x e ≡ true) xs 0 k → AllWithin (λ x. is_before x e ≡ false) xs k (length xs) → if_it has (slice_get xs k) ≡ find has xs
  first-at [] k s h g = refl
  first-at (x ∷ xs) zero s h g = elim (cases_Bool (has x)) [
    | inl t ↦ cond-true (has x) (Some x) None t ∙ sym (cond-true (has x) (Some x) (find has xs) t)
    | inr f ↦
        cond-false (has x) (Some x) None f
        ∙ sym (none-behind xs (behind-rises x xs s (g 0 x (omega arith) (omega arith)) f))
        ∙ sym (cond-false (has x) (Some x) (find has xs) f)
  ]
  first-at (x ∷ xs) (suc k) s h g =
      first-at xs k (tail-sorted x xs s) (λ j d u b. h (suc j) d (omega arith) (omega arith)) (λ j d u b. g (suc j) d (omega arith) (omega arith))
      ∙ sym (cond-false (has x) (Some x) (find has xs) (before-not x (h 0 x (omega arith) (omega arith))))

-- ---- the first of a filter, and its place

find-filter : {X : Type 0} (p : X → Bool) (xs : List X) → find p xs ≡ slice_get (filter p xs) 0
find-filter p [] = refl
find-filter p (x ∷ xs) = elim (cases_Bool (p x)) [
  | inl t ↦ cond-true (p x) (Some x) (find p xs) t ∙ sym (ap (λ l. slice_get l 0) (cond-true (p x) (x ∷ filter p xs) (filter p xs) t))
  | inr f ↦ cond-false (p x) (Some x) (find p xs) f ∙ find-filter p xs ∙ sym (ap (λ l. slice_get l 0) (cond-false (p x) (x ∷ filter p xs) (filter p xs) f))
]

find-map : {X Y : Type 0} (p : Y → Bool) (f : X → Y) (xs : List X) → option_map f (find (λ x. p (f x)) xs) ≡ find p (map f xs)
find-map p f [] = refl
find-map p f (x ∷ xs) = elim (cases_Bool (p (f x))) [
  | inl t ↦ ap (option_map f) (cond-true (p (f x)) (Some x) (find (λ y. p (f y)) xs) t) ∙ sym (cond-true (p (f x)) (Some (f x)) (find p (map f xs)) t)
  | inr g ↦ ap (option_map f) (cond-false (p (f x)) (Some x) (find (λ y. p (f y)) xs) g) ∙ find-map p f xs ∙ sym (cond-false (p (f x)) (Some (f x)) (find p (map f xs)) g)
]

map-twice : {X Y Z : Type 0} (f : X → Y) (g : Y → Z) (o : Option X) → option_map (λ x. g (f x)) o ≡ option_map g (option_map f o)
map-twice f g None = refl
map-twice f g (Some x) = refl

abbrev pub has_pair : Tree → Tree × ℕ → Bool
has_pair t x = is_same_term t x.0

numbered-first : (t : Tree) (v : ℕ) (ts : List Tree) → option_map (λ (x : Tree × ℕ). x.1) (find (has_pair t) (numbered v ts)) ≡ position_from (is_same_term t) v ts
numbered-first t v [] = refl
numbered-first t v (u ∷ ts) = elim (cases_Bool (is_same_term t u)) [
  | inl h ↦
      ap (option_map (λ (x : Tree × ℕ). x.1)) (cond-true (is_same_term t u) (Some (u, v)) (find (has_pair t) (numbered (v + 1) ts)) h)
      ∙ sym (cond-true (is_same_term t u) (Some v) (position_from (is_same_term t) (v + 1) ts) h)
  | inr f ↦
      ap (option_map (λ (x : Tree × ℕ). x.1)) (cond-false (is_same_term t u) (Some (u, v)) (find (has_pair t) (numbered (v + 1) ts)) f)
      ∙ numbered-first t (v + 1) ts
      ∙ sym (cond-false (is_same_term t u) (Some v) (position_from (is_same_term t) (v + 1) ts) f)
]

pub least-first : (terms : List Tree) (sorted : List ValueTerm) (e : ValueTerm) → AreSorted terms sorted → option_map (λ (x : ValueTerm). x.value) (find (has_term (tree e.term.now)) sorted) ≡ least_with terms (tree e.term.now)
least-first terms sorted e s =
    let t : Tree = tree e.term.now in
    let same : find (has_term t) sorted ≡ find (has_term t) s.values = find-filter (has_term t) sorted ∙ ap (λ l. slice_get l 0) (s.groups e) ∙ sym (find-filter (has_term t) s.values) in
    ap (option_map (λ (x : ValueTerm). x.value)) same
    ∙ map-twice pair_of (λ (x : Tree × ℕ). x.1) (find (has_term t) s.values)
    ∙ ap (option_map (λ (x : Tree × ℕ). x.1)) (find-map (has_pair t) pair_of s.values ∙ ap (find (has_pair t)) s.all)
    ∙ numbered-first t 0 terms
    ∙ sym (position_from-zero (is_same_term t) terms)
