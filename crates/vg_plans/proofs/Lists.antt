-- What sorting, leaving out and choosing keep.
use Rattle.std.proofs.Common.{◌≡◌, ℕ, zero, suc, ◌≤◌, ◌⊎◌, Bool, true, false, List, [], ◌∷◌, ◌++◌, map, length, take, refl, sym, ◌∙◌, ap, subst, inl, inr, arith}
use Rattle.std.specs.Prelude.{nat_le, nat_lt, if◌then◌else◌, filter, flat_map}
use Rattle.std.specs.List.{list_any}
use Rattle.std.proofs.lemmas.Bool.{cases_Bool}
use Rattle.std.proofs.lemmas.Bool.Decides.{nat_tests}
use Rattle.vg_plans.specs.Levels.{distinct_from, insert_by, sort_by, kept_of, first_least}
use Rattle.vg_plans.specs.Members.{Has, Every, AllDiffer}
use Rattle.vg_plans.proofs.Members.{any-found}

-- members
pub has-append_left : {X : Type 0} (x : X) (xs ys : List X) → Has x xs → Has x (xs ++ ys)
has-append_left x [] ys h = absurd h
has-append_left x (z ∷ xs) ys h = elim h [ inl e ↦ inl e | inr r ↦ inr (has-append_left x xs ys r) ]

pub has-append_right : {X : Type 0} (x : X) (xs ys : List X) → Has x ys → Has x (xs ++ ys)
has-append_right x [] ys h = h
has-append_right x (z ∷ xs) ys h = inr (has-append_right x xs ys h)

pub has-map : {X Y : Type 0} (f : X → Y) (x : X) (xs : List X) → Has x xs → Has (f x) (map f xs)
has-map f x [] h = absurd h
has-map f x (z ∷ xs) h = elim h [ inl e ↦ inl (ap f e) | inr r ↦ inr (has-map f x xs r) ]

pub has-flat_map : {X Y : Type 0} (f : X → List Y) (x : X) (y : Y) (xs : List X) → Has x xs → Has y (f x) → Has y (flat_map f xs)
has-flat_map f x y [] h k = absurd h
has-flat_map f x y (z ∷ xs) h k = elim h [
  | inl e ↦ has-append_left y (f z) (flat_map f xs) (subst (λ w. Has y (f w)) (sym e) k)
  | inr r ↦ has-append_right y (f z) (flat_map f xs) (has-flat_map f x y xs r k)
]

-- what holds of every value
pub every-append : {X : Type 0} (P : X → Type 0) (xs ys : List X) → Every P xs → Every P ys → Every P (xs ++ ys)
every-append P [] ys a b = b
every-append P (x ∷ xs) ys a b = (a.0, every-append P xs ys a.1 b)

pub every-map : {X Y : Type 0} (P : Y → Type 0) (f : X → Y) (xs : List X) → ((x : X) → Has x xs → P (f x)) → Every P (map f xs)
every-map P f [] h = tt
every-map P f (x ∷ xs) h = (h x (inl refl), every-map P f xs (λ y k. h y (inr k)))

pub every-flat_map : {X Y : Type 0} (Q : X → Type 0) (P : Y → Type 0) (f : X → List Y) (xs : List X) → ((x : X) → Q x → Every P (f x)) → Every Q xs → Every P (flat_map f xs)
every-flat_map Q P f [] h a = tt
every-flat_map Q P f (x ∷ xs) h a = every-append P (f x) (flat_map f xs) (h x a.0) (every-flat_map Q P f xs h a.1)

pub every-take : {X : Type 0} (P : X → Type 0) (n : ℕ) (xs : List X) → Every P xs → Every P (take n xs)
every-take P zero xs a = tt
every-take P (suc n) [] a = tt
every-take P (suc n) (x ∷ xs) a = (a.0, every-take P n xs a.1)

pub every-filter : {X : Type 0} (P : X → Type 0) (test : X → Bool) (xs : List X) → Every P xs → Every P (filter test xs)
every-filter P test [] a = tt
every-filter P test (x ∷ xs) a = elim (cases_Bool (test x)) [
  | inl t ↦ rw t (a.0, every-filter P test xs a.1)
  | inr f ↦ rw f (every-filter P test xs a.1)
]

pub every-has : {X : Type 0} (P : X → Type 0) (x : X) (xs : List X) → Every P xs → Has x xs → P x
every-has P x [] a h = absurd h
every-has P x (y ∷ xs) a h = elim h [ inl e ↦ subst P e a.0 | inr r ↦ every-has P x xs a.1 r ]

pub take-whole : {X : Type 0} (n : ℕ) (xs : List X) → length xs ≤ n → take n xs ≡ xs
take-whole zero [] le = refl
take-whole zero (x ∷ xs) le = absurd (omega arith)
take-whole (suc n) [] le = refl
take-whole (suc n) (x ∷ xs) le = ap (λ r. x ∷ r) (take-whole n xs (omega arith))

-- sorting keeps the values
has-insert : {X : Type 0} (key : X → ℕ) (x y : X) (ys : List X) → (x ≡ y) ⊎ Has y ys → Has y (insert_by key x ys)
has-insert key x y [] h = h
has-insert key x y (z ∷ ys) h = elim (cases_Bool (nat_le (key x) (key z))) [
  | inl t ↦ rw t h
  | inr f ↦ rw f (elim h [
    | inl e ↦ inr (has-insert key x y ys (inl e))
    | inr r ↦ elim r [ inl e ↦ inl e | inr s ↦ inr (has-insert key x y ys (inr s)) ]
  ])
]

pub has-sort : {X : Type 0} (key : X → ℕ) (y : X) (xs : List X) → Has y xs → Has y (sort_by key xs)
has-sort key y [] h = absurd h
has-sort key y (x ∷ xs) h = has-insert key x y (sort_by key xs) (elim h [ inl e ↦ inl e | inr r ↦ inr (has-sort key y xs r) ])

every-insert : {X : Type 0} (P : X → Type 0) (key : X → ℕ) (x : X) (ys : List X) → P x → Every P ys → Every P (insert_by key x ys)
every-insert P key x [] p a = (p, tt)
every-insert P key x (z ∷ ys) p a = elim (cases_Bool (nat_le (key x) (key z))) [
  | inl t ↦ rw t (p, a)
  | inr f ↦ rw f (a.0, every-insert P key x ys p a.1)
]

pub every-sort : {X : Type 0} (P : X → Type 0) (key : X → ℕ) (xs : List X) → Every P xs → Every P (sort_by key xs)
every-sort P key [] a = tt
every-sort P key (x ∷ xs) a = every-insert P key x (sort_by key xs) a.0 (every-sort P key xs a.1)

length-insert_by : {X : Type 0} (key : X → ℕ) (x : X) (ys : List X) → length (insert_by key x ys) ≡ suc (length ys)
length-insert_by key x [] = refl
length-insert_by key x (z ∷ ys) = elim (cases_Bool (nat_le (key x) (key z))) [
  | inl t ↦ rw t refl
  | inr f ↦ rw f (ap suc (length-insert_by key x ys))
]

pub length-sort : {X : Type 0} (key : X → ℕ) (xs : List X) → length (sort_by key xs) ≡ length xs
length-sort key [] = refl
length-sort key (x ∷ xs) = length-insert_by key x (sort_by key xs) ∙ ap suc (length-sort key xs)

pub every-kept : {X : Type 0} (P : X → Type 0) (key : X → ℕ) (width : ℕ) (xs : List X) → Every P xs → Every P (kept_of key width xs)
every-kept P key width xs a = elim (cases_Bool (nat_le (length xs) width)) [
  | inl t ↦ rw t a
  | inr f ↦ rw f (every-take P width (sort_by key xs) (every-sort P key xs a))
]

-- leaving out
pub every-distinct : {X : Type 0} (P : X → Type 0) (same : X → X → Bool) (seen xs : List X) → Every P xs → Every P (distinct_from same seen xs)
every-distinct P same seen [] a = tt
every-distinct P same seen (x ∷ xs) a = elim (cases_Bool (list_any (same x) seen)) [
  | inl t ↦ rw t (every-distinct P same seen xs a.1)
  | inr f ↦ rw f (a.0, every-distinct P same (x ∷ seen) xs a.1)
]

pub none-found : {X : Type 0} (test : X → Bool) (xs : List X) → list_any test xs ≡ false → Every (λ y. test y ≡ false) xs
none-found test [] t = tt
none-found test (x ∷ xs) t = elim (cases_Bool (test x)) [
  | inl h ↦ absurd (let e : true ≡ false = rw h at t in cc)
  | inr f ↦ (f, none-found test xs (rw f at t))
]

-- each value has one that is the same, before or among those that stay
pub stays : {X : Type 0} (same : X → X → Bool) → ((x : X) → same x x ≡ true) → (x : X) (seen xs : List X) → Has x xs → (y : X) × (Has y seen ⊎ Has y (distinct_from same seen xs)) × (same x y ≡ true)
stays same itself x seen [] h = absurd h
stays same itself x seen (z ∷ xs) h = elim (cases_Bool (list_any (same z) seen)) [
  | inl t ↦ rw t (elim h [
    | inl e ↦ let k = any-found (same z) seen t in (k.0, inl k.1, subst (λ w. same w k.0 ≡ true) e k.2)
    | inr r ↦ stays same itself x seen xs r
  ])
  | inr f ↦ rw f (elim h [
    | inl e ↦ (z, inr (inl refl), subst (λ w. same w z ≡ true) e (itself z))
    | inr r ↦ let k = stays same itself x (z ∷ seen) xs r in
        (k.0, elim k.1 [ inl s ↦ elim s [ inl e ↦ inr (inl e) | inr p ↦ inl p ] | inr d ↦ inr (inr d) ], k.2)
  ])
]

-- those that stay differ from each other and from those before
differ-from_seen : {X : Type 0} (same : X → X → Bool) → (x : X) (seen xs : List X) → Has x seen → Every (λ y. same y x ≡ false) (distinct_from same seen xs)
differ-from_seen same x seen [] h = tt
differ-from_seen same x seen (z ∷ xs) h = elim (cases_Bool (list_any (same z) seen)) [
  | inl t ↦ rw t (differ-from_seen same x seen xs h)
  | inr f ↦ rw f (every-has (λ y. same z y ≡ false) x seen (none-found (same z) seen f) h, differ-from_seen same x (z ∷ seen) xs (inr h))
]

pub every-implies : {X : Type 0} (P Q : X → Type 0) → ((x : X) → P x → Q x) → (xs : List X) → Every P xs → Every Q xs
every-implies P Q f [] a = tt
every-implies P Q f (x ∷ xs) a = (f x a.0, every-implies P Q f xs a.1)

turned_false : {X : Type 0} (same : X → X → Bool) → ((a b : X) → same a b ≡ true → same b a ≡ true) → (a b : X) → same a b ≡ false → same b a ≡ false
turned_false same turned a b f = elim (cases_Bool (same b a)) [
  | inl t ↦ absurd (let e = turned b a t in cc)
  | inr g ↦ g
]

pub distinct-differ : {X : Type 0} (same : X → X → Bool) → ((a b : X) → same a b ≡ true → same b a ≡ true) → (seen xs : List X) → AllDiffer same (distinct_from same seen xs)
distinct-differ same turned seen [] = tt
distinct-differ same turned seen (z ∷ xs) = elim (cases_Bool (list_any (same z) seen)) [
  | inl t ↦ rw t (distinct-differ same turned seen xs)
  | inr f ↦ rw f (every-implies (λ y. same y z ≡ false) (λ y. same z y ≡ false) (λ y. turned_false same turned y z) (distinct_from same (z ∷ seen) xs) (differ-from_seen same z (z ∷ seen) xs (inl refl)), distinct-differ same turned (z ∷ seen) xs)
]

-- choosing
least-below_best : {X : Type 0} (key : X → ℕ) (best : X) (xs : List X) → key (first_least key best xs) ≤ key best
least-below_best key best [] = omega arith
least-below_best key best (x ∷ xs) = elim (cases_Bool (nat_lt (key x) (key best))) [
  | inl t ↦ rw t (let h = least-below_best key x xs in grind (arith, nat_tests, h))
  | inr f ↦ rw f (least-below_best key best xs)
]

pub least-below : {X : Type 0} (key : X → ℕ) (best x : X) (xs : List X) → Has x xs → key (first_least key best xs) ≤ key x
least-below key best x [] h = absurd h
least-below key best x (z ∷ xs) h = elim h [
  | inl e ↦ subst (λ w. key (first_least key best (z ∷ xs)) ≤ key w) e (elim (cases_Bool (nat_lt (key z) (key best))) [
    | inl t ↦ rw t (least-below_best key z xs)
    | inr f ↦ rw f (let k = least-below_best key best xs in grind (arith, nat_tests, k))
  ])
  | inr r ↦ least-below key (if nat_lt (key z) (key best) then z else best) x xs r
]
