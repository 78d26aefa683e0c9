-- Lists in which nothing stands twice.
use Rattle.std.proofs.Common.{◌≡◌, ℕ, zero, suc, Bool, true, false, List, [], ◌∷◌, ◌++◌, refl, sym, ◌∙◌, ap, subst, inl, inr}
use Rattle.std.specs.Prelude.{◌⊎◌, filter, nat_le, slice_get, Some}
use Rattle.std.specs.List.{flat_map, list_any}
use Rattle.std.proofs.lemmas.Bool.{cases_Bool}
use Rattle.std.proofs.lemmas.Grind.{flat_map-append}
use Rattle.vg_plans.specs.Levels.{distinct_from, insert_by, sort_by}
use Rattle.vg_plans.specs.Members.{AllDiffer, Every, Has}
use Rattle.vg_plans.proofs.Lists.{every-has, every-sort, has-flat_map, none-found}
use Rattle.vg_plans.proofs.Members.{Unique, from-filter, from-flat_map, has-append, has-left, has-right}

-- ---- members

every-own : {X : Type 0} (P : X → Type 0) (xs : List X) → ((x : X) → Has x xs → P x) → Every P xs
every-own P [] f = tt
every-own P (x ∷ xs) f = (f x (inl refl), every-own P xs (λ y h. f y (inr h)))

pub from-sort : {X : Type 0} (key : X → ℕ) (x : X) (xs : List X) → Has x (sort_by key xs) → Has x xs
from-sort key x xs h =
    every-has (λ y. Has y xs) x (sort_by key xs) (every-sort (λ y. Has y xs) key xs (every-own (λ y. Has y xs) xs (λ y k. k))) h

pub get-has : {X : Type 0} (x : X) (xs : List X) (k : ℕ) → slice_get xs k ≡ Some x → Has x xs
get-has x [] k e = absurd (cc)
get-has x (y ∷ xs) zero e = inl (cc)
get-has x (y ∷ xs) (suc k) e = inr (get-has x xs k e)

-- ---- parts of lists

pub unique-front : {X : Type 0} (xs ys : List X) → Unique (xs ++ ys) → Unique xs
unique-front [] ys u = tt
unique-front (x ∷ xs) ys u = ((λ h. u.0 (has-left x xs ys h)), unique-front xs ys u.1)

unique-back : {X : Type 0} (xs ys : List X) → Unique (xs ++ ys) → Unique ys
unique-back [] ys u = u
unique-back (x ∷ xs) ys u = unique-back xs ys u.1

not-both : {X : Type 0} (x : X) (xs ys : List X) → Unique (xs ++ ys) → Has x xs → Has x ys → ⊥
not-both x [] ys u h k = h
not-both x (z ∷ xs) ys u h k = elim h [
  | inl e ↦ u.0 (has-right z xs ys (subst (λ q. Has q ys) (sym e) k))
  | inr r ↦ not-both x xs ys u.1 r k
]

unique-append : {X : Type 0} (xs ys : List X) → Unique xs → Unique ys → ((x : X) → Has x xs → Has x ys → ⊥) → Unique (xs ++ ys)
unique-append [] ys u v n = v
unique-append (x ∷ xs) ys u v n = (
  (λ h. elim (has-append x xs ys h) [ inl l ↦ u.0 l | inr r ↦ n x (inl refl) r ]),
  unique-append xs ys u.1 v (λ y l r. n y (inr l) r),
)

-- ---- filters and sorts

pub unique-filter : {X : Type 0} (test : X → Bool) (xs : List X) → Unique xs → Unique (filter test xs)
unique-filter test [] u = tt
unique-filter test (x ∷ xs) u = elim (cases_Bool (test x)) [
  | inl t ↦ rw t ((λ h. u.0 (from-filter test x xs h).0), unique-filter test xs u.1)
  | inr f ↦ rw f (unique-filter test xs u.1)
]

from-insert : {X : Type 0} (key : X → ℕ) (x y : X) (ys : List X) → Has y (insert_by key x ys) → (x ≡ y) ⊎ Has y ys
from-insert key x y [] h = h
from-insert key x y (z ∷ ys) h = elim (cases_Bool (nat_le (key x) (key z))) [
  | inl t ↦ rw t at h
  | inr f ↦ elim (rw f at h) [
    | inl e ↦ inr (inl e)
    | inr r ↦ elim (from-insert key x y ys r) [ inl e ↦ inl e | inr s ↦ inr (inr s) ]
  ]
]

unique-insert : {X : Type 0} (key : X → ℕ) (x : X) (ys : List X) → (Has x ys → ⊥) → Unique ys → Unique (insert_by key x ys)
unique-insert key x [] n u = ((λ h. h), tt)
unique-insert key x (z ∷ ys) n u = elim (cases_Bool (nat_le (key x) (key z))) [
  | inl t ↦ rw t (n, u)
  | inr f ↦ rw f (
    (λ h. elim (from-insert key x z ys h) [ inl e ↦ n (inl (sym e)) | inr r ↦ u.0 r ]),
    unique-insert key x ys (λ h. n (inr h)) u.1,
  )
]

pub unique-sort : {X : Type 0} (key : X → ℕ) (xs : List X) → Unique xs → Unique (sort_by key xs)
unique-sort key [] u = tt
unique-sort key (x ∷ xs) u = unique-insert key x (sort_by key xs) (λ h. u.0 (from-sort key x xs h)) (unique-sort key xs u.1)

-- those that stay differ from those before
pub differ-from : {X : Type 0} (same : X → X → Bool) (x : X) (seen xs : List X) → Has x seen → Every (λ y. same y x ≡ false) (distinct_from same seen xs)
differ-from same x seen [] h = tt
differ-from same x seen (z ∷ xs) h = elim (cases_Bool (list_any (same z) seen)) [
  | inl t ↦ rw t (differ-from same x seen xs h)
  | inr f ↦ rw f (every-has (λ y. same z y ≡ false) x seen (none-found (same z) seen f) h, differ-from same x (z ∷ seen) xs (inr h))
]

-- values that differ
pub unique-differ : {X : Type 0} (same : X → X → Bool) → ((x : X) → same x x ≡ true) → (xs : List X) → AllDiffer same xs → Unique xs
unique-differ same own [] d = tt
unique-differ same own (x ∷ xs) d = (
  (λ h. let f : same x x ≡ false = every-has (λ y. same x y ≡ false) x xs d.0 h in let t = own x in absurd (cc)),
  unique-differ same own xs d.1,
)

-- ---- lists of lists

-- what a function gives at values that differ
pub unique-flat : {X Y : Type 0} (f : X → List Y) (xs : List X) → Unique xs → ((x : X) → Has x xs → Unique (f x))
    → ((x y : X) (v : Y) → Has x xs → Has y xs → Has v (f x) → Has v (f y) → x ≡ y) → Unique (flat_map f xs)
unique-flat f [] u each one = tt
unique-flat f (x ∷ xs) u each one =
    unique-append (f x) (flat_map f xs) (each x (inl refl))
    (unique-flat f xs u.1 (λ y h. each y (inr h)) (λ y z v h k l m. one y z v (inr h) (inr k) l m))
    (λ v h k.
    let y = from-flat_map f v xs k in
    u.0 (subst (λ q. Has q xs) (sym (one x y.0 v (inl refl) (inr y.1) h y.2)) y.1))

-- where nothing stands twice in lists, one after the other, nothing stands in two of them
pub one-of : {X Y : Type 0} (f : X → List Y) (xs : List X) → Unique (flat_map f xs)
    → (i j : ℕ) (p q : X) (v : Y) → slice_get xs i ≡ Some p → slice_get xs j ≡ Some q → Has v (f p) → Has v (f q) → i ≡ j
one-of f [] u i j p q v e g h k = absurd (cc)
one-of f (x ∷ xs) u zero zero p q v e g h k = refl
one-of f (x ∷ xs) u zero (suc j) p q v e g h k =
    let same : p ≡ x = some-same p x (sym e) in
    absurd (not-both v (f x) (flat_map f xs) u (subst (λ z. Has v (f z)) same h) (has-flat_map f q v xs (get-has q xs j g) k))
  where
    some-same : {X : Type 0} (a b : X) → Some a ≡ Some b → a ≡ b
    some-same a b e = cc
one-of f (x ∷ xs) u (suc i) zero p q v e g h k =
    let same : q ≡ x = some-same q x (sym g) in
    absurd (not-both v (f x) (flat_map f xs) u (subst (λ z. Has v (f z)) same k) (has-flat_map f p v xs (get-has p xs i e) h))
  where
    some-same : {X : Type 0} (a b : X) → Some a ≡ Some b → a ≡ b
    some-same a b e = cc
one-of f (x ∷ xs) u (suc i) (suc j) p q v e g h k = ap suc (one-of f xs (unique-back (f x) (flat_map f xs) u) i j p q v e g h k)

pub unique-of : {X Y : Type 0} (f : X → List Y) (x : X) (xs : List X) → Unique (flat_map f xs) → Has x xs → Unique (f x)
unique-of f x [] u h = absurd h
unique-of f x (y ∷ xs) u h = elim h [
  | inl e ↦ subst (λ z. Unique (f z)) e (unique-front (f y) (flat_map f xs) u)
  | inr r ↦ unique-of f x xs (unique-back (f y) (flat_map f xs) u) r
]

-- where nothing stands twice, a value stands at one place
pub one-place : {X : Type 0} (xs : List X) → Unique xs → (i j : ℕ) (v : X) → slice_get xs i ≡ Some v → slice_get xs j ≡ Some v → i ≡ j
one-place [] u i j v e g = absurd (cc)
one-place (x ∷ xs) u zero zero v e g = refl
one-place (x ∷ xs) u zero (suc j) v e g = absurd (u.0 (get-has x xs j (g ∙ sym e)))
one-place (x ∷ xs) u (suc i) zero v e g = absurd (u.0 (get-has x xs i (e ∙ sym g)))
one-place (x ∷ xs) u (suc i) (suc j) v e g = ap suc (one-place xs u.1 i j v e g)

-- lists of lists of lists
pub flat-flat : {X Y Z : Type 0} (f : Y → List Z) (g : X → List Y) (xs : List X) → flat_map f (flat_map g xs) ≡ flat_map (λ x. flat_map f (g x)) xs
flat-flat f g [] = refl
flat-flat f g (x ∷ xs) = flat_map-append f (g x) (flat_map g xs) ∙ ap (λ zs. flat_map f (g x) ++ zs) (flat-flat f g xs)
