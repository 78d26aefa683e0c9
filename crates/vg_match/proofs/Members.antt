-- Members of lists, and what holds of each of them.
use Rattle.std.proofs.Common.{◌≡◌, Bool, true, List, [], ◌∷◌, ◌++◌, Option, Some, None, refl, sym, ap, subst, ◌∙◌, ◌⊎◌, inl, inr}
use Rattle.std.specs.Prelude.{filter, find, IsSome}
use Rattle.std.specs.List.{AllByRecursion, cons_option, filter_map}
use Rattle.std.proofs.lemmas.Bool.{cases_Bool, cond-true, cond-false}

pub some-same : {X : Type 0} (x y : X) → Some x ≡ Some y → x ≡ y
some-same x y e = cc

abbrev pub Has : {X : Type 0} → X → List X → Type 0
Has x [] = ⊥
Has x (y ∷ ys) = (y ≡ x) ⊎ Has x ys

pub has-left : {X : Type 0} (x : X) (xs ys : List X) → Has x xs → Has x (xs ++ ys)
has-left x [] ys h = absurd h
has-left x (y ∷ xs) ys (inl e) = inl e
has-left x (y ∷ xs) ys (inr h) = inr (has-left x xs ys h)

pub has-right : {X : Type 0} (x : X) (xs ys : List X) → Has x ys → Has x (xs ++ ys)
has-right x [] ys h = h
has-right x (y ∷ xs) ys h = inr (has-right x xs ys h)

pub has-filter : {X : Type 0} (p : X → Bool) (x : X) (xs : List X) → p x ≡ true → Has x xs → Has x (filter p xs)
has-filter p x [] t h = absurd h
has-filter p x (y ∷ xs) t (inl e) = subst (Has x) (sym (cond-true (p y) (y ∷ filter p xs) (filter p xs) (ap p e ∙ t))) (inl e)
has-filter p x (y ∷ xs) t (inr h) = elim (cases_Bool (p y)) [
  | inl s ↦ subst (Has x) (sym (cond-true (p y) (y ∷ filter p xs) (filter p xs) s)) (inr (has-filter p x xs t h))
  | inr f ↦ subst (Has x) (sym (cond-false (p y) (y ∷ filter p xs) (filter p xs) f)) (has-filter p x xs t h)
]

pub has-filter_map : {X Y : Type 0} (f : X → Option Y) (x : X) (y : Y) (xs : List X) → f x ≡ Some y → Has x xs → Has y (filter_map f xs)
has-filter_map f x y [] e h = absurd h
has-filter_map f x y (z ∷ xs) e (inl s) = subst (λ o. Has y (cons_option o (filter_map f xs))) (sym (ap f s ∙ e)) (inl refl)
has-filter_map {Y = Y} f x y (z ∷ xs) e (inr h) = by (f z) (has-filter_map f x y xs e h)
  where
    by : (o : Option Y) → Has y (filter_map f xs) → Has y (cons_option o (filter_map f xs))
    by None rest = rest
    by (Some w) rest = inr rest

pub found-has : {X : Type 0} (p : X → Bool) (x : X) (xs : List X) → p x ≡ true → Has x xs → IsSome (find p xs)
found-has p x [] t h = absurd h
found-has p x (y ∷ xs) t (inl e) = subst IsSome (sym (cond-true (p y) (Some y) (find p xs) (ap p e ∙ t))) refl
found-has p x (y ∷ xs) t (inr h) = elim (cases_Bool (p y)) [
  | inl s ↦ subst IsSome (sym (cond-true (p y) (Some y) (find p xs) s)) refl
  | inr f ↦ subst IsSome (sym (cond-false (p y) (Some y) (find p xs) f)) (found-has p x xs t h)
]

pub all-filter : {X : Type 0} (P : X → Type 0) (p : X → Bool) (xs : List X) → AllByRecursion P xs → AllByRecursion P (filter p xs)
all-filter P p [] h = tt
all-filter P p (x ∷ xs) h = elim (cases_Bool (p x)) [
  | inl t ↦ subst (AllByRecursion P) (sym (cond-true (p x) (x ∷ filter p xs) (filter p xs) t)) (h.0, all-filter P p xs h.1)
  | inr f ↦ subst (AllByRecursion P) (sym (cond-false (p x) (x ∷ filter p xs) (filter p xs) f)) (all-filter P p xs h.1)
]

pub all-filter_map : {X Y : Type 0} (P : X → Type 0) (Q : Y → Type 0) (f : X → Option Y) → ((x : X) (y : Y) → P x → f x ≡ Some y → Q y) → (xs : List X) → AllByRecursion P xs → AllByRecursion Q (filter_map f xs)
all-filter_map P Q f step [] h = tt
all-filter_map {Y = Y} P Q f step (x ∷ xs) h = by (f x) refl (all-filter_map P Q f step xs h.1)
  where
    by : (o : Option Y) → f x ≡ o → AllByRecursion Q (filter_map f xs) → AllByRecursion Q (cons_option o (filter_map f xs))
    by None e rest = rest
    by (Some y) e rest = (step x y h.0 e, rest)

pub all-append : {X : Type 0} (P : X → Type 0) (xs ys : List X) → AllByRecursion P xs → AllByRecursion P ys → AllByRecursion P (xs ++ ys)
all-append P [] ys h g = g
all-append P (x ∷ xs) ys h g = (h.0, all-append P xs ys h.1 g)

pub all-weaker : {X : Type 0} (P Q : X → Type 0) → ((x : X) → P x → Q x) → (xs : List X) → AllByRecursion P xs → AllByRecursion Q xs
all-weaker P Q f [] h = tt
all-weaker P Q f (x ∷ xs) h = (f x h.0, all-weaker P Q f xs h.1)
