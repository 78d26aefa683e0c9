-- What goes by the members of a list alone.
use Rattle.std.proofs.Common.{◌≡◌, ℕ, ◌+◌, ◌⊎◌, Bool, true, false, List, [], ◌∷◌, ◌++◌, refl, sym, ◌∙◌, ap, subst, inl, inr, arith}
use Rattle.std.specs.Prelude.{flat_map, filter, sum_by}
use Rattle.std.specs.List.{list_any, list_all}
use Rattle.std.proofs.lemmas.Bool.{cases_Bool}
use Rattle.std.proofs.lemmas.List.Sums.{sum_by-cons}
use Rattle.vg_plans.specs.Members.{Has}

abbrev pub Includes : {X : Type 0} → List X → List X → Type 0
Includes {X} xs ys = (x : X) → Has x xs → Has x ys

pub record SameMembers {X : Type 0} (xs ys : List X) : Type 0 where
  pub there : Includes xs ys
  pub back : Includes ys xs

pub has-append : {X : Type 0} (x : X) (xs ys : List X) → Has x (xs ++ ys) → Has x xs ⊎ Has x ys
has-append x [] ys h = inr h
has-append x (z ∷ xs) ys h = elim h [
  | inl e ↦ inl (inl e)
  | inr r ↦ elim (has-append x xs ys r) [ inl a ↦ inl (inr a) | inr b ↦ inr b ]
]

pub from-flat_map : {X Y : Type 0} (f : X → List Y) (y : Y) (xs : List X) → Has y (flat_map f xs) → (x : X) × Has x xs × Has y (f x)
from-flat_map f y [] h = absurd h
from-flat_map f y (x ∷ xs) h = elim (has-append y (f x) (flat_map f xs) h) [
  | inl a ↦ (x, inl refl, a)
  | inr b ↦ let k = from-flat_map f y xs b in (k.0, inr k.1, k.2)
]

-- a test of some member
any-has : {X : Type 0} (test : X → Bool) (x : X) (xs : List X) → Has x xs → test x ≡ true → list_any test xs ≡ true
any-has test x [] h t = absurd h
any-has test x (z ∷ xs) h t = elim h [
  | inl e ↦ let u : test z ≡ true = subst (λ y. test y ≡ true) (sym e) t in rw u refl
  | inr r ↦ elim (cases_Bool (test z)) [ inl u ↦ rw u refl | inr f ↦ rw f (any-has test x xs r t) ]
]

pub any-found : {X : Type 0} (test : X → Bool) (xs : List X) → list_any test xs ≡ true → (y : X) × Has y xs × (test y ≡ true)
any-found test [] t = absurd (cc)
any-found test (x ∷ xs) t = elim (cases_Bool (test x)) [
  | inl h ↦ (x, inl refl, h)
  | inr f ↦ let k = any-found test xs (rw f at t) in (k.0, inr k.1, k.2)
]

pub any-is : {X : Type 0} (test : X → Bool) (x : X) (xs : List X) → Has x xs → test x ≡ true → list_any test xs ≡ true
any-is = any-has

any-includes : {X : Type 0} (test : X → Bool) (xs ys : List X) → Includes xs ys → list_any test xs ≡ true → list_any test ys ≡ true
any-includes test xs ys i t = let k = any-found test xs t in any-has test k.0 ys (i k.0 k.1) k.2

-- two tests that are true together are one
both : (a b : Bool) → (a ≡ true → b ≡ true) → (b ≡ true → a ≡ true) → a ≡ b
both true true f g = refl
both true false f g = sym (f refl)
both false true f g = g refl
both false false f g = refl

pub together : (a b : Bool) → (a ≡ true → b ≡ true) → (b ≡ true → a ≡ true) → a ≡ b
together = both

pub any-same : {X : Type 0} (test : X → Bool) (xs ys : List X) → SameMembers xs ys → list_any test xs ≡ list_any test ys
any-same test xs ys s = both _ _ (any-includes test xs ys s.there) (any-includes test ys xs s.back)

-- tests that agree
pub any-agree : {X : Type 0} (f g : X → Bool) → ((x : X) → f x ≡ g x) → (xs : List X) → list_any f xs ≡ list_any g xs
any-agree f g e [] = refl
any-agree f g e (x ∷ xs) = rw (e x, any-agree f g e xs) refl

pub all-agree : {X : Type 0} (f g : X → Bool) → ((x : X) → f x ≡ g x) → (xs : List X) → list_all f xs ≡ list_all g xs
all-agree f g e [] = refl
all-agree f g e (x ∷ xs) = rw (e x, all-agree f g e xs) refl

pub filter-agree : {X : Type 0} (f g : X → Bool) → ((x : X) → f x ≡ g x) → (xs : List X) → filter f xs ≡ filter g xs
filter-agree f g e [] = refl
filter-agree f g e (x ∷ xs) = rw (e x, filter-agree f g e xs) refl

pub sum-agree : {X : Type 0} (f g : X → ℕ) → ((x : X) → f x ≡ g x) → (xs : List X) → sum_by f xs ≡ sum_by g xs
sum-agree f g e [] = refl
sum-agree f g e (x ∷ xs) = sum_by-cons f x xs ∙ cc (e x, sum-agree f g e xs) ∙ sym (sum_by-cons g x xs)

pub flat_map-agree : {X Y : Type 0} (f g : X → List Y) → ((x : X) → f x ≡ g x) → (xs : List X) → flat_map f xs ≡ flat_map g xs
flat_map-agree f g e [] = refl
flat_map-agree f g e (x ∷ xs) = rw (e x, flat_map-agree f g e xs) refl

-- members of a filtered list
pub has-filter : {X : Type 0} (test : X → Bool) (x : X) (xs : List X) → Has x xs → test x ≡ true → Has x (filter test xs)
has-filter test x [] h t = absurd h
has-filter test x (z ∷ xs) h t = elim (cases_Bool (test z)) [
  | inl u ↦ rw u (elim h [ inl e ↦ inl e | inr r ↦ inr (has-filter test x xs r t) ])
  | inr f ↦ rw f (elim h [ inl e ↦ absurd (let k : test z ≡ true = subst (λ y. test y ≡ true) (sym e) t in cc) | inr r ↦ has-filter test x xs r t ])
]

pub from-filter : {X : Type 0} (test : X → Bool) (x : X) (xs : List X) → Has x (filter test xs) → Has x xs × (test x ≡ true)
from-filter test x [] h = absurd h
from-filter test x (z ∷ xs) h = elim (cases_Bool (test z)) [
  | inl u ↦ elim (rw u at h) [
    | inl e ↦ (inl e, subst (λ y. test y ≡ true) e u)
    | inr r ↦ let k = from-filter test x xs r in (inr k.0, k.1)
  ]
  | inr f ↦ let k = from-filter test x xs (rw f at h) in (inr k.0, k.1)
]

-- lists in which nothing stands twice
abbrev pub Unique : {X : Type 0} → List X → Type 0
Unique [] = Unit {0}
Unique (x ∷ xs) = (Has x xs → ⊥) × Unique xs

pub unique-push : {X : Type 0} (x : X) (xs : List X) → Unique xs → (Has x xs → ⊥) → Unique (xs ++ x ∷ [])
unique-push x [] u n = ((λ h. h), tt)
unique-push x (y ∷ xs) u n = (
  (λ h. elim (has-append y xs (x ∷ []) h) [ inl l ↦ u.0 l | inr r ↦ elim r [ inl e ↦ n (inl (sym e)) | inr none ↦ absurd none ] ]),
  unique-push x xs u.1 (λ h. n (inr h)),
)

-- the list around a member
pub record Around {X : Type 0} (x : X) (xs : List X) : Type 0 where
  pub before : List X
  pub after : List X
  pub is : xs ≡ before ++ x ∷ after

pub around : {X : Type 0} (x : X) (xs : List X) → Has x xs → Around x xs
around x [] h = absurd h
around x (y ∷ xs) h = elim h [
  | inl e ↦ record { before = []; after = xs; is = ap (λ z. z ∷ xs) e }
  | inr r ↦ let k = around x xs r in record { before = y ∷ k.before; after = k.after; is = ap (λ l. y ∷ l) k.is }
]

pub has-left : {X : Type 0} (x : X) (xs ys : List X) → Has x xs → Has x (xs ++ ys)
has-left x [] ys h = absurd h
has-left x (z ∷ xs) ys h = elim h [ inl e ↦ inl e | inr r ↦ inr (has-left x xs ys r) ]

pub has-right : {X : Type 0} (x : X) (xs ys : List X) → Has x ys → Has x (xs ++ ys)
has-right x [] ys h = h
has-right x (z ∷ xs) ys h = inr (has-right x xs ys h)

pub unique-around : {X : Type 0} (x : X) (before after : List X) → Unique (before ++ x ∷ after) → Unique (before ++ after) × (Has x (before ++ after) → ⊥)
unique-around x [] after u = (u.1, u.0)
unique-around x (y ∷ before) after u =
    let k = unique-around x before after u.1 in (
      ((λ h. u.0 (elim (has-append y before after h) [ inl l ↦ has-left y before (x ∷ after) l | inr r ↦ has-right y before (x ∷ after) (inr r) ])), k.0),
      (λ h. elim h [ inl e ↦ u.0 (has-right y before (x ∷ after) (inl (sym e))) | inr r ↦ k.1 r ]),
    )

sum-around : {X : Type 0} (f : X → ℕ) (x : X) (before after : List X) → sum_by f (before ++ x ∷ after) ≡ f x + sum_by f (before ++ after)
sum-around f x [] after = sum_by-cons f x after
sum-around f x (y ∷ before) after =
    let a = sum_by-cons f y (before ++ x ∷ after) in
    let b = sum_by-cons f y (before ++ after) in
    let h = sum-around f x before after in
    omega arith

-- the rest has the same members
rest-same : {X : Type 0} (x : X) (xs before after : List X) → Unique (x ∷ xs) → Unique (before ++ x ∷ after) → SameMembers (x ∷ xs) (before ++ x ∷ after) → SameMembers xs (before ++ after)
rest-same x xs before after u v s = record {
  there = λ y h. elim (has-append y before (x ∷ after) (s.there y (inr h))) [
    | inl l ↦ has-left y before after l
    | inr r ↦ elim r [ inl e ↦ absurd (u.0 (subst (λ z. Has z xs) (sym e) h)) | inr q ↦ has-right y before after q ]
  ];
  back = λ y h. elim (s.back y (elim (has-append y before after h) [ inl l ↦ has-left y before (x ∷ after) l | inr r ↦ has-right y before (x ∷ after) (inr r) ])) [
    | inl e ↦ absurd ((unique-around x before after v).1 (subst (λ z. Has z (before ++ after)) (sym e) h))
    | inr r ↦ r
  ];
}

-- a sum goes by the members
pub sum-same : {X : Type 0} (f : X → ℕ) (xs ys : List X) → Unique xs → Unique ys → SameMembers xs ys → sum_by f xs ≡ sum_by f ys
sum-same f [] [] u v s = refl
sum-same f [] (y ∷ ys) u v s = absurd (s.back y (inl refl))
sum-same f (x ∷ xs) ys u v s =
    let k = around x ys (s.there x (inl refl)) in
    let v_k : Unique (k.before ++ x ∷ k.after) = subst Unique k.is v in
    let rest = sum-same f xs (k.before ++ k.after) u.1 (unique-around x k.before k.after v_k).0 (rest-same x xs k.before k.after u v_k (subst (SameMembers (x ∷ xs)) k.is s)) in
    sum_by-cons f x xs ∙ ap (λ n. f x + n) rest ∙ sym (sum-around f x k.before k.after) ∙ ap (sum_by f) (sym k.is)

-- what a function gives at the members
pub has-flat : {X Y : Type 0} (f : X → List Y) (x : X) (y : Y) (xs : List X) → Has x xs → Has y (f x) → Has y (flat_map f xs)
has-flat f x y [] h k = absurd h
has-flat f x y (z ∷ xs) h k = elim h [
  | inl e ↦ has-left y (f z) (flat_map f xs) (subst (λ q. Has y (f q)) (sym e) k)
  | inr r ↦ has-right y (f z) (flat_map f xs) (has-flat f x y xs r k)
]

flat_map-includes : {X Y : Type 0} (f : X → List Y) (xs ys : List X) → Includes xs ys → Includes (flat_map f xs) (flat_map f ys)
flat_map-includes f xs ys i = λ y h. let k = from-flat_map f y xs h in has-flat f k.0 y ys (i k.0 k.1) k.2

pub flat_map-same : {X Y : Type 0} (f : X → List Y) (xs ys : List X) → SameMembers xs ys → SameMembers (flat_map f xs) (flat_map f ys)
flat_map-same f xs ys s = record { there = flat_map-includes f xs ys s.there; back = flat_map-includes f ys xs s.back }

pub append-same : {X : Type 0} (zs xs ys : List X) → SameMembers xs ys → SameMembers (zs ++ xs) (zs ++ ys)
append-same zs xs ys s = record {
  there = λ y h. elim (has-append y zs xs h) [ inl l ↦ has-left y zs ys l | inr r ↦ has-right y zs ys (s.there y r) ];
  back = λ y h. elim (has-append y zs ys h) [ inl l ↦ has-left y zs xs l | inr r ↦ has-right y zs xs (s.back y r) ];
}
