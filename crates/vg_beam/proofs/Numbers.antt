-- Numbers of packs in a list that grows.
use Rattle.std.proofs.Common.{◌≡◌, ℕ, zero, suc, ◌+◌, ◌<◌, ◌≤◌, Bool, true, false, List, [], ◌∷◌, ◌++◌, map, length, take, drop, get_or, refl, sym, ◌∙◌, ap, subst, inl, inr, arith, length-append}
use Rattle.std.specs.Prelude.{filter, nat_eq, nat_lt, nat_le, if◌then◌else◌, slice_get, unwrap_or}
use Rattle.std.specs.List.{position, position_or_len}
use Rattle.std.proofs.lemmas.Bool.{cases_Bool}
use Rattle.std.proofs.lemmas.Bool.Decides.{nat_tests}
use Rattle.std.proofs.lemmas.List.{get_or_append_left, map-append}
use Rattle.std.proofs.lemmas.Grind.{get_or_default_zero}
use Rattle.std.proofs.lemmas.List.Recursion.{is_position_or_len}
use Rattle.std.proofs.Math.Seq.{get_or-append_seam}
use Rattle.vg_plans.specs.Members.{Every, Has}
use Rattle.vg_plans.proofs.Lists.{every-append}
use Rattle.vg_beam.specs.Key.{AreApart, IsKey, Names, first_place, is_number, with_number}

-- ---- first places

pub place-most : {X : Type 0} (test : X → Bool) (xs : List X) → first_place test xs ≤ length xs
place-most test [] = omega arith
place-most test (x ∷ xs) = elim (cases_Bool (test x)) [
  | inl t ↦ rw t (omega arith)
  | inr f ↦ rw f (let h = place-most test xs in omega (arith, h))
]

one-more : (n : ℕ) → suc n ≡ 1 + n
one-more n = omega arith

pub place-is : {X : Type 0} (test : X → Bool) (xs : List X) → unwrap_or (position test xs) (length xs) ≡ first_place test xs
place-is test xs =
    let e = is_position_or_len (first_place test) test refl (λ x ys. ap (λ k. if test x then 0 else k) (one-more (first_place test ys))) xs in
    let most = place-most test xs in
    elim (cases_Bool (nat_lt (position_or_len test xs) (length xs))) [
      | inl t ↦ rw t (sym e)
      | inr f ↦ rw f (let l : length xs ≤ position_or_len test xs = grind (arith, nat_tests, f) in omega (arith, e, most, l))
    ]

pub place-passes : {X : Type 0} (test : X → Bool) (xs : List X) (none : X) → first_place test xs < length xs
    → test (get_or xs (first_place test xs) none) ≡ true
place-passes test [] none l = absurd (omega (arith, l))
place-passes test (x ∷ xs) none l = elim (cases_Bool (test x)) [
  | inl t ↦ rw t t
  | inr f ↦ rw f (place-passes test xs none (let k : suc (first_place test xs) < length (x ∷ xs) = rw f at l in omega (arith, k)))
]

pub place-none : {X : Type 0} (test : X → Bool) (xs : List X) (none : X) → length xs ≤ first_place test xs
    → (n : ℕ) → n < length xs → test (get_or xs n none) ≡ false
place-none test [] none l n k = absurd (omega (arith, k))
place-none test (x ∷ xs) none l n k = elim (cases_Bool (test x)) [
  | inl t ↦ absurd (let h : length (x ∷ xs) ≤ 0 = rw t at l in omega (arith, h))
  | inr f ↦ behind f (place-none test xs none (let j : length (x ∷ xs) ≤ suc (first_place test xs) = rw f at l in omega (arith, j))) n k
]
  where
    behind : test x ≡ false → ((m : ℕ) → m < length xs → test (get_or xs m none) ≡ false) → (m : ℕ) → m < length (x ∷ xs) → test (get_or (x ∷ xs) m none) ≡ false
    behind f rest zero h = f
    behind f rest (suc m) h = rest m (omega (arith, h))

pub place-end : {X : Type 0} (test : X → Bool) (xs : List X) → length xs ≤ first_place test xs → first_place test xs ≡ length xs
place-end test xs l = let most = place-most test xs in omega (arith, l, most)

-- ---- numbers that pass a test

map-filter : {X Y : Type 0} (f : X → Y) (test : Y → Bool) (xs : List X) → map f (filter (λ x. test (f x)) xs) ≡ filter test (map f xs)
map-filter f test [] = refl
map-filter f test (x ∷ xs) = elim (cases_Bool (test (f x))) [
  | inl t ↦ rw t (ap (λ l. f x ∷ l) (map-filter f test xs))
  | inr g ↦ rw g (map-filter f test xs)
]

pub every-filter : {X : Type 0} (Is : X → Type 0) (test : X → Bool) (xs : List X) → Every Is xs → Every Is (filter test xs)
every-filter Is test [] a = tt
every-filter Is test (x ∷ xs) a = elim (cases_Bool (test x)) [
  | inl t ↦ rw t (a.0, every-filter Is test xs a.1)
  | inr f ↦ rw f (every-filter Is test xs a.1)
]

-- ---- one number more in a rising list

abbrev pub above : ℕ → ℕ → Bool
above n x = nat_le n x

pub with-there : (n : ℕ) (xs : List ℕ) → is_number n (slice_get xs (first_place (λ x. nat_le n x) xs)) ≡ true → with_number n xs ≡ xs
with-there n [] t = absurd (cc)
with-there n (x ∷ xs) t = elim (cases_Bool (nat_le n x)) [
  | inl u ↦
      let e : nat_eq x n ≡ true = rw u at t in
      let f : nat_lt n x ≡ false = grind (arith, nat_tests, e) in
      let g : nat_eq n x ≡ true = grind (arith, nat_tests, e) in
      rw (f, g) refl
  | inr v ↦
      let k : is_number n (slice_get (x ∷ xs) (suc (first_place (λ y. nat_le n y) xs))) ≡ true = rw v at t in
      let f : nat_lt n x ≡ false = grind (arith, nat_tests, v) in
      let g : nat_eq n x ≡ false = grind (arith, nat_tests, v) in
      rw (f, g) (ap (λ l. x ∷ l) (with-there n xs k))
]

pub with-new : (n : ℕ) (xs : List ℕ) → is_number n (slice_get xs (first_place (λ x. nat_le n x) xs)) ≡ false
    → with_number n xs ≡ take (first_place (λ x. nat_le n x) xs) xs ++ n ∷ drop (first_place (λ x. nat_le n x) xs) xs
with-new n [] t = refl
with-new n (x ∷ xs) t = elim (cases_Bool (nat_le n x)) [
  | inl u ↦
      let e : nat_eq x n ≡ false = rw u at t in
      let f : nat_lt n x ≡ true = grind (arith, nat_tests, u, e) in
      rw (u, f) refl
  | inr v ↦
      let k : is_number n (slice_get (x ∷ xs) (suc (first_place (λ y. nat_le n y) xs))) ≡ false = rw v at t in
      let f : nat_lt n x ≡ false = grind (arith, nat_tests, v) in
      let g : nat_eq n x ≡ false = grind (arith, nat_tests, v) in
      rw (v, f, g) (ap (λ l. x ∷ l) (with-new n xs k))
]

-- ---- lists of packs that grow

module _ {P : Type 0} (none : P) where
  pub at-left : (packs more : List P) (n : ℕ) → n < length packs → get_or (packs ++ more) n none ≡ get_or packs n none
  at-left packs more n l = get_or_append_left packs more none n l

  pub inside-grows : (packs more : List P) (ns : List ℕ) → Every (λ n. n < length packs) ns → Every (λ n. n < length (packs ++ more)) ns
  inside-grows packs more [] a = tt
  inside-grows packs more (n ∷ ns) a = (let l = a.0 in omega (arith, l, length-append packs more), inside-grows packs more ns a.1)

  map-left : (packs more : List P) (ns : List ℕ) → Every (λ n. n < length packs) ns
      → map (λ n. get_or (packs ++ more) n none) ns ≡ map (λ n. get_or packs n none) ns
  map-left packs more [] a = refl
  map-left packs more (n ∷ ns) a = let e = at-left packs more n a.0 in let f = map-left packs more ns a.1 in cc

  pub names-grow : (packs more : List P) (ns : List ℕ) (named : List P) → Names none packs ns named → Names none (packs ++ more) ns named
  names-grow packs more ns named a = record {
    names = map-left packs more ns a.inside ∙ a.names;
    inside = inside-grows packs more ns a.inside;
  }

  pub key-grow : (packs more : List P) (key : List ℕ) (plan : List P) → IsKey none packs key plan → IsKey none (packs ++ more) key plan
  key-grow packs more key plan a = record {
    rises = a.rises;
    inside = inside-grows packs more key a.inside;
    there = λ p h. subst (λ l. Has p l) (sym (map-left packs more key a.inside)) (a.there p h);
    back = λ p h. a.back p (subst (λ l. Has p l) (map-left packs more key a.inside) h);
  }

  pub names-push : (packs : List P) (ns : List ℕ) (named : List P) (n : ℕ) (p : P) → Names none packs ns named → n < length packs
      → get_or packs n none ≡ p → Names none packs (ns ++ n ∷ []) (named ++ p ∷ [])
  names-push packs ns named n p a l e = record {
    names = map-append (λ m. get_or packs m none) ns (n ∷ []) ∙ ap (λ q. q ++ get_or packs n none ∷ []) a.names ∙ ap (λ q. named ++ q ∷ []) e;
    inside = every-append (λ m. m < length packs) ns (n ∷ []) a.inside (l, tt);
  }

  pub names-join : (packs : List P) (ns ms : List ℕ) (named more : List P) → Names none packs ns named → Names none packs ms more
      → Names none packs (ns ++ ms) (named ++ more)
  names-join packs ns ms named more a b = record {
    names = map-append (λ m. get_or packs m none) ns ms ∙ ap (λ q. q ++ map (λ m. get_or packs m none) ms) a.names ∙ ap (λ q. named ++ q) b.names;
    inside = every-append (λ m. m < length packs) ns ms a.inside b.inside;
  }

  pub names-filter : (test : P → Bool) (packs : List P) (ns : List ℕ) (named : List P) → Names none packs ns named
      → Names none packs (filter (λ m. test (get_or packs m none)) ns) (filter test named)
  names-filter test packs ns named a = record {
    names = map-filter (λ m. get_or packs m none) test ns ∙ ap (filter test) a.names;
    inside = every-filter (λ m. m < length packs) (λ m. test (get_or packs m none)) ns a.inside;
  }

  pub key-none : (packs : List P) → IsKey none packs [] []
  key-none packs = record { rises = tt; inside = tt; there = λ p h. h; back = λ p h. h }

  pub names-none : (packs : List P) → Names none packs [] []
  names-none packs = record { names = refl; inside = tt }

  -- a new pack at the end
  pub apart-push : (same : P → P → Bool) → ((p : P) → same p p ≡ true) → (packs : List P) (p : P)
      → ((n : ℕ) → n < length packs → same p (get_or packs n none) ≡ false)
      → AreApart none packs → AreApart none (packs ++ p ∷ [])
  apart-push same itself packs p new apart = λ m n k l e. elim (cases_Bool (nat_lt m (length packs))) [
    | inl t ↦ elim (cases_Bool (nat_lt n (length packs))) [
      | inl u ↦
          let i : m < length packs = grind (arith, nat_tests, t) in
          let j : n < length packs = grind (arith, nat_tests, u) in
          apart m n i j (sym (at-left packs (p ∷ []) m i) ∙ e ∙ at-left packs (p ∷ []) n j)
      | inr f ↦
          let i : m < length packs = grind (arith, nat_tests, t) in
          let at_end = last n l f in
          absurd (differ m i (sym (at-left packs (p ∷ []) m i) ∙ e ∙ at_end.1))
    ]
    | inr g ↦ elim (cases_Bool (nat_lt n (length packs))) [
      | inl u ↦
          let j : n < length packs = grind (arith, nat_tests, u) in
          let at_end = last m k g in
          absurd (differ n j (sym (at-left packs (p ∷ []) n j) ∙ sym e ∙ at_end.1))
      | inr f ↦ (last m k g).0 ∙ sym (last n l f).0
    ]
  ]
    where
      last : (i : ℕ) → i < length (packs ++ p ∷ []) → nat_lt i (length packs) ≡ false → (i ≡ length packs) × (get_or (packs ++ p ∷ []) i none ≡ p)
      last i l f =
          let e : i ≡ length packs = (let g : length packs ≤ i = grind (arith, nat_tests, f) in omega (arith, l, g, length-append packs (p ∷ []))) in
          (e, ap (λ j. get_or (packs ++ p ∷ []) j none) e ∙ get_or-append_seam packs p [] none)

      differ : (i : ℕ) → i < length packs → get_or packs i none ≡ p → ⊥
      differ i l e = let f = new i l in let t : same p (get_or packs i none) ≡ true = ap (same p) e ∙ itself p in absurd (let k : false ≡ true = sym f ∙ t in cc)

-- a value of a list at an index
pub every-at : {X : Type 0} (Q : X → Type 0) (xs : List X) (i : ℕ) (x : X) → Every Q xs → i < length xs → x ≡ get_or xs i x → Q x
every-at Q [] i x a l e = absurd (omega (arith, l))
every-at Q (y ∷ xs) zero x a l e = subst Q (sym e) a.0
every-at Q (y ∷ xs) (suc i) x a l e = every-at Q xs i x a.1 (omega (arith, l)) e

pub has-at : {X : Type 0} (xs : List X) (i : ℕ) (x : X) → i < length xs → x ≡ get_or xs i x → Has x xs
has-at [] i x l e = absurd (omega (arith, l))
has-at (y ∷ xs) zero x l e = inl (sym e)
has-at (y ∷ xs) (suc i) x l e = inr (has-at xs i x (omega (arith, l)) e)

pub map-at : {X Y : Type 0} (f : X → Y) (xs : List X) (i : ℕ) (x : X) (none : Y) → i < length xs → x ≡ get_or xs i x → f x ≡ get_or (map f xs) i none
map-at f [] i x none l e = absurd (omega (arith, l))
map-at f (y ∷ xs) zero x none l e = ap f e
map-at f (y ∷ xs) (suc i) x none l e = map-at f xs i x none (omega (arith, l)) e

pub zero-at : (xs : List ℕ) (i : ℕ) → i < length xs → get_or xs i 0 ≡ get_or xs i (get_or xs i 0)
zero-at xs i l = sym (get_or_default_zero xs i (get_or xs i 0) l)

pub length-map : {X Y : Type 0} (f : X → Y) (xs : List X) → length (map f xs) ≡ length xs
length-map f [] = refl
length-map f (x ∷ xs) = ap suc (length-map f xs)

pub every-any : {X : Type 0} (Q : X → Type 0) (xs : List X) (i : ℕ) (d : X) → Every Q xs → i < length xs → Q (get_or xs i d)
every-any Q [] i d a l = absurd (omega (arith, l))
every-any Q (x ∷ xs) zero d a l = a.0
every-any Q (x ∷ xs) (suc i) d a l = every-any Q xs i d a.1 (omega (arith, l))
