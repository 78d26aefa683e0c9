-- A stable sort has one answer.
use Rattle.std.proofs.Common.{◌≡◌, ℕ, suc, ◌<◌, ◌≤◌, true, false, List, [], ◌∷◌, length, refl, sym, ◌∙◌, ap, subst, inl, inr, arith, get_or}
use Rattle.std.specs.Prelude.{not, ◌&&◌, nat_le, nat_lt, nat_eq, filter, ◌==◌}
use Rattle.std.specs.Ordering.{is_lt, nat_cmp}
use Rattle.std.specs.List.Sorted.{IsNonDecreasingBy, IsStableByKey, ties}
use Rattle.std.proofs.lemmas.Bool.{cases_Bool}
use Rattle.std.proofs.lemmas.Bool.Decides.{nat_tests}
use Rattle.vg_plans.proofs.Lists.{every-implies}
use Rattle.vg_plans.proofs.Members.{filter-agree}
use Rattle.vg_plans.specs.Levels.{insert_by, sort_by}
use Rattle.vg_plans.specs.Members.{Every}

-- each key is at most those after it
abbrev pub Rises : {X : Type 0} → (X → ℕ) → List X → Type 0
Rises key [] = Unit {0}
Rises key (x ∷ xs) = Every (λ y. key x ≤ key y) xs × Rises key xs

-- those of one key
abbrev pub of_key : {X : Type 0} → (X → ℕ) → ℕ → List X → List X
of_key key k xs = filter (λ y. nat_eq k (key y)) xs

eq-refl : (k : ℕ) → nat_eq k k ≡ true
eq-refl k = grind (arith, nat_tests)

-- none has a lesser key than the first
none-below : {X : Type 0} (key : X → ℕ) (k : ℕ) (xs : List X) → Every (λ y. k < key y) xs → of_key key k xs ≡ []
none-below key k [] a = refl
none-below key k (x ∷ xs) a = let f : nat_eq k (key x) ≡ false = grind (arith, nat_tests, a.0) in rw f (none-below key k xs a.1)

insert-rises : {X : Type 0} (key : X → ℕ) (x : X) (ys : List X) → Rises key ys → Rises key (insert_by key x ys)
insert-rises key x [] r = (tt, tt)
insert-rises key x (y ∷ ys) r = elim (cases_Bool (nat_le (key x) (key y))) [
  | inl t ↦ rw t (let le : key x ≤ key y = grind (arith, nat_tests, t) in
      ((le, every-implies (λ z. key y ≤ key z) (λ z. key x ≤ key z) (λ z h. omega arith) ys r.0), r))
  | inr f ↦ rw f (let le : key y ≤ key x = grind (arith, nat_tests, f) in
      (every-insert (λ z. key y ≤ key z) key x ys le r.0, insert-rises key x ys r.1))
]
  where
    every-insert : {X : Type 0} (P : X → Type 0) (key : X → ℕ) (x : X) (ys : List X) → P x → Every P ys → Every P (insert_by key x ys)
    every-insert P key x [] p a = (p, tt)
    every-insert P key x (z ∷ ys) p a = elim (cases_Bool (nat_le (key x) (key z))) [
      | inl t ↦ rw t (p, a)
      | inr f ↦ rw f (a.0, every-insert P key x ys p a.1)
    ]

pub sort-rises : {X : Type 0} (key : X → ℕ) (xs : List X) → Rises key (sort_by key xs)
sort-rises key [] = tt
sort-rises key (x ∷ xs) = insert-rises key x (sort_by key xs) (sort-rises key xs)

kept : {X : Type 0} (key : X → ℕ) (k : ℕ) (x : X) (xs : List X) → nat_eq k (key x) ≡ true → of_key key k (x ∷ xs) ≡ x ∷ of_key key k xs
kept key k x xs t = rw t refl

left : {X : Type 0} (key : X → ℕ) (k : ℕ) (x : X) (xs : List X) → nat_eq k (key x) ≡ false → of_key key k (x ∷ xs) ≡ of_key key k xs
left key k x xs f = rw f refl

under : {X : Type 0} (key : X → ℕ) (k : ℕ) (x : X) (xs ys : List X) → of_key key k xs ≡ of_key key k ys → of_key key k (x ∷ xs) ≡ of_key key k (x ∷ ys)
under key k x xs ys e = elim (cases_Bool (nat_eq k (key x))) [
  | inl t ↦ kept key k x xs t ∙ ap (λ l. x ∷ l) e ∙ sym (kept key k x ys t)
  | inr f ↦ left key k x xs f ∙ e ∙ sym (left key k x ys f)
]

of_key-insert : {X : Type 0} (key : X → ℕ) (k : ℕ) (x : X) (ys : List X) → of_key key k (insert_by key x ys) ≡ of_key key k (x ∷ ys)
of_key-insert key k x [] = refl
of_key-insert key k x (y ∷ ys) = elim (cases_Bool (nat_le (key x) (key y))) [
  | inl t ↦ rw t refl
  | inr f ↦ let step : insert_by key x (y ∷ ys) ≡ y ∷ insert_by key x ys = rw f refl in ap (of_key key k) step ∙ elim (cases_Bool (nat_eq k (key x))) [
    | inl u ↦ let no : nat_eq k (key y) ≡ false = grind (arith, nat_tests, u, f) in
        left key k y (insert_by key x ys) no ∙ of_key-insert key k x ys ∙ kept key k x ys u ∙ sym (kept key k x (y ∷ ys) u ∙ ap (λ l. x ∷ l) (left key k y ys no))
    | inr g ↦ under key k y (insert_by key x ys) ys (of_key-insert key k x ys ∙ left key k x ys g) ∙ sym (left key k x (y ∷ ys) g)
  ]
]

pub of_key-sort : {X : Type 0} (key : X → ℕ) (k : ℕ) (xs : List X) → of_key key k (sort_by key xs) ≡ of_key key k xs
of_key-sort key k [] = refl
of_key-sort key k (x ∷ xs) = of_key-insert key k x (sort_by key xs) ∙ (elim (cases_Bool (nat_eq k (key x))) [
  | inl t ↦ rw t (ap (λ l. x ∷ l) (of_key-sort key k xs))
  | inr f ↦ rw f (of_key-sort key k xs)
])

-- two rising lists with the same values of each key are one
pub rising-one : {X : Type 0} (key : X → ℕ) (xs ys : List X) → Rises key xs → Rises key ys → ((z : X) → of_key key (key z) xs ≡ of_key key (key z) ys) → xs ≡ ys
rising-one key [] [] r s e = refl
rising-one key [] (y ∷ ys) r s e = absurd (let h : [] ≡ y ∷ of_key key (key y) ys = e y ∙ (rw (eq-refl (key y)) refl) in cc)
rising-one key (x ∷ xs) [] r s e = absurd (let h : x ∷ of_key key (key x) xs ≡ [] = (rw (eq-refl (key x)) refl) ∙ e x in cc)
rising-one {X = X} key (x ∷ xs) (y ∷ ys) r s e =
    let at_x : x ∷ of_key key (key x) xs ≡ of_key key (key x) (y ∷ ys) = (rw (eq-refl (key x)) refl) ∙ e x in
    let at_y : of_key key (key y) (x ∷ xs) ≡ y ∷ of_key key (key y) ys = e y ∙ (rw (eq-refl (key y)) refl) in
    let up : key y ≤ key x = not_below (key x) (key y) (λ lt. let none : of_key key (key x) (y ∷ ys) ≡ [] = none-below key (key x) (y ∷ ys) (lt, every-implies (λ z. key y ≤ key z) (λ z. key x < key z) (λ z h. omega arith) ys s.0) in (let h : x ∷ of_key key (key x) xs ≡ [] = at_x ∙ none in cc)) in
    let down : key x ≤ key y = not_below (key y) (key x) (λ lt. let none : of_key key (key y) (x ∷ xs) ≡ [] = none-below key (key y) (x ∷ xs) (lt, every-implies (λ z. key x ≤ key z) (λ z. key y < key z) (λ z h. omega arith) xs r.0) in (let h : [] ≡ y ∷ of_key key (key y) ys = sym none ∙ at_y in cc)) in
    let level : key x ≡ key y = omega arith in
    let both : x ∷ of_key key (key x) xs ≡ y ∷ of_key key (key x) ys = at_x ∙ (let t : nat_eq (key x) (key y) ≡ true = grind (arith, nat_tests, level) in rw t refl) in
    let first : x ≡ y = cc in
    let rest : (z : X) → of_key key (key z) xs ≡ of_key key (key z) ys = λ z. elim (cases_Bool (nat_eq (key z) (key x))) [
      | inl t ↦ let is_k : key z ≡ key x = grind (arith, nat_tests, t) in subst (λ j. of_key key j xs ≡ of_key key j ys) (sym is_k) (cc)
      | inr f ↦ let g : nat_eq (key z) (key y) ≡ false = subst (λ j. nat_eq (key z) j ≡ false) level f in
          sym (left key (key z) x xs f) ∙ e z ∙ left key (key z) y ys g
    ] in
    let tail = rising-one key xs ys r.1 s.1 rest in
    cc
  where
    not_below : (m n : ℕ) → (m < n → ⊥) → n ≤ m
    not_below m n h = elim (cases_Bool (nat_lt m n)) [
      | inl t ↦ absurd (h (grind (arith, nat_tests, t)))
      | inr f ↦ grind (arith, nat_tests, f)
    ]

-- from what a sort ensures
rises-from : {X : Type 0} (key : X → ℕ) (xs : List X) → IsNonDecreasingBy key xs → Rises key xs
rises-from key [] h = tt
rises-from {X = X} key (x ∷ xs) h = (every-above xs (λ k lt. h 0 (suc k) x (omega arith) (omega arith)), rises-from key xs (λ i j d le lt. h (suc i) (suc j) d (omega arith) (omega arith)))
  where
    every-above : (ys : List X) → ((k : ℕ) → k < length ys → key x ≤ key (get_or ys k x)) → Every (λ y. key x ≤ key y) ys
    every-above [] f = tt
    every-above (y ∷ ys) f = (f 0 (omega arith), every-above ys (λ k lt. f (suc k) (omega arith)))

less-is : (m n : ℕ) → is_lt (nat_cmp m n) ≡ nat_lt m n
less-is m n = elim (cases_Bool (nat_lt m n)) [
  | inl t ↦ rw t refl
  | inr f ↦ rw f (elim (cases_Bool (m == n)) [ inl e ↦ rw e refl | inr g ↦ rw g refl ])
]

tie-is_key : (m n : ℕ) → (not (is_lt (nat_cmp m n)) && not (is_lt (nat_cmp n m))) ≡ nat_eq m n
tie-is_key m n = rw (less-is m n, less-is n m) (elim (cases_Bool (nat_lt m n)) [
  | inl t ↦ let e : nat_eq m n ≡ false = grind (arith, nat_tests, t) in rw (t, e) refl
  | inr f ↦ elim (cases_Bool (nat_lt n m)) [
    | inl u ↦ let e : nat_eq m n ≡ false = grind (arith, nat_tests, u) in rw (f, u, e) refl
    | inr g ↦ let e : nat_eq m n ≡ true = grind (arith, nat_tests, f, g) in rw (f, g, e) refl
  ]
])

pub stable-one : {X : Type 0} (key : X → ℕ) (xs ys : List X) → IsNonDecreasingBy key ys → IsStableByKey key nat_cmp xs ys → ys ≡ sort_by key xs
stable-one {X = X} key xs ys r s = rising-one key ys (sort_by key xs) (rises-from key ys r) (sort-rises key xs) (λ z. sym (by_tie z ys) ∙ s z ∙ by_tie z xs ∙ sym (of_key-sort key (key z) xs))
  where
    by_tie : (z : X) (l : List X) → filter (ties (λ x y. is_lt (nat_cmp (key x) (key y))) z) l ≡ of_key key (key z) l
    by_tie z l = filter-agree (ties (λ x y. is_lt (nat_cmp (key x) (key y))) z) (λ y. nat_eq (key z) (key y)) (λ y. tie-is_key (key z) (key y)) l
