-- Keys of plans: two plans have the same packs where they have the same key.
use Rattle.std.proofs.Common.{◌≡◌, ℕ, ◌<◌, ◌≤◌, ◌⊎◌, Bool, true, false, List, [], ◌∷◌, ◌++◌, map, length, get_or, refl, sym, ◌∙◌, ap, subst, inl, inr, arith}
use Rattle.std.specs.Prelude.{◌||◌, ◌&&◌, nat_eq, nat_lt, bytes_eq}
use Rattle.std.specs.List.{list_any}
use Rattle.indexmap.specs.IndexSet.{insert_key}
use Rattle.std.proofs.lemmas.Bool.{cases_Bool}
use Rattle.std.proofs.lemmas.Bool.Decides.{nat_tests}
use Rattle.vg_plans.specs.Members.{Every, Has}
use Rattle.vg_plans.specs.World.{World, IsWorld, same_packs}
use Rattle.vg_plans.proofs.Lists.{every-has, has-map}
use Rattle.vg_plans.proofs.Members.{Includes, SameMembers, has-append, has-left, has-right, together}
use Rattle.vg_plans.proofs.Plans.{members-same, same-members}
use Rattle.vg_beam.specs.Key.{AreApart, IsKey, Rises, has_key, with_number}

-- ---- rising lists

every-weaker : (P Q : ℕ → Type 0) → ((x : ℕ) → P x → Q x) → (xs : List ℕ) → Every P xs → Every Q xs
every-weaker P Q f [] a = tt
every-weaker P Q f (x ∷ xs) a = (f x a.0, every-weaker P Q f xs a.1)

pub every-with : (P : ℕ → Type 0) (n : ℕ) (xs : List ℕ) → P n → Every P xs → Every P (with_number n xs)
every-with P n [] p a = (p, tt)
every-with P n (x ∷ xs) p a = elim (cases_Bool (nat_lt n x)) [
  | inl t ↦ rw t (p, a)
  | inr f ↦ rw f (elim (cases_Bool (nat_eq n x)) [
    | inl e ↦ rw e a
    | inr g ↦ rw g (a.0, every-with P n xs p a.1)
  ])
]

pub rises-with : (n : ℕ) (xs : List ℕ) → Rises xs → Rises (with_number n xs)
rises-with n [] r = (tt, tt)
rises-with n (x ∷ xs) r = elim (cases_Bool (nat_lt n x)) [
  | inl t ↦ rw t (let l : n < x = grind (arith, nat_tests, t) in ((l, every-weaker (λ y. x < y) (λ y. n < y) (λ y h. omega (arith, l, h)) xs r.0), r))
  | inr f ↦ rw f (elim (cases_Bool (nat_eq n x)) [
    | inl e ↦ rw e r
    | inr g ↦ rw g (let l : x < n = grind (arith, nat_tests, f, g) in (every-with (λ y. x < y) n xs l r.0, rises-with n xs r.1))
  ])
]

pub has-with : (n m : ℕ) (xs : List ℕ) → Has m (with_number n xs) → (n ≡ m) ⊎ Has m xs
has-with n m [] h = elim h [ inl e ↦ inl e | inr none ↦ absurd none ]
has-with n m (x ∷ xs) h = elim (cases_Bool (nat_lt n x)) [
  | inl t ↦ (let k : Has m (n ∷ x ∷ xs) = rw t at h in elim k [ inl e ↦ inl e | inr r ↦ inr r ])
  | inr f ↦ elim (cases_Bool (nat_eq n x)) [
    | inl e ↦ (let k : Has m (x ∷ xs) = rw (f, e) at h in inr k)
    | inr g ↦ (let k : Has m (x ∷ with_number n xs) = rw (f, g) at h in
        elim k [ inl e ↦ inr (inl e) | inr r ↦ elim (has-with n m xs r) [ inl e ↦ inl e | inr q ↦ inr (inr q) ] ])
  ]
]

pub with-has : (n m : ℕ) (xs : List ℕ) → (n ≡ m) ⊎ Has m xs → Has m (with_number n xs)
with-has n m [] h = h
with-has n m (x ∷ xs) h = elim (cases_Bool (nat_lt n x)) [
  | inl t ↦ rw t h
  | inr f ↦ rw f (elim (cases_Bool (nat_eq n x)) [
    | inl e ↦ rw e (let same : n ≡ x = grind (arith, nat_tests, e) in elim h [ inl p ↦ inl (sym same ∙ p) | inr r ↦ r ])
    | inr g ↦ rw g (elim h [
      | inl p ↦ inr (with-has n m xs (inl p))
      | inr r ↦ elim r [ inl p ↦ inl p | inr q ↦ inr (with-has n m xs (inr q)) ]
    ])
  ])
]

least-first : (x y : ℕ) (xs ys : List ℕ) → Rises (x ∷ xs) → Has x (y ∷ ys) → Rises (y ∷ ys) → y ≤ x
least-first x y xs ys r h s = elim h [
  | inl e ↦ omega (arith, e)
  | inr k ↦ (let l = every-has (λ z. y < z) x ys s.0 k in omega (arith, l))
]

rest-has : (x m : ℕ) (xs ys : List ℕ) → Rises (x ∷ xs) → Has m xs → Has m (x ∷ ys) → Has m ys
rest-has x m xs ys r h k = elim k [
  | inl e ↦ absurd (let l = every-has (λ z. x < z) m xs r.0 h in omega (arith, l, e))
  | inr q ↦ q
]

-- rising lists of the same members are one
pub rising-one : (xs ys : List ℕ) → Rises xs → Rises ys → Includes xs ys → Includes ys xs → xs ≡ ys
rising-one [] [] r s i j = refl
rising-one [] (y ∷ ys) r s i j = absurd (j y (inl refl))
rising-one (x ∷ xs) [] r s i j = absurd (i x (inl refl))
rising-one (x ∷ xs) (y ∷ ys) r s i j =
    let a = least-first x y xs ys r (i x (inl refl)) s in
    let b = least-first y x ys xs s (j y (inl refl)) r in
    let e : x ≡ y = omega (arith, a, b) in
    let rest = rising-one xs ys r.1 s.1
    (λ m h. rest-has x m xs ys r h (subst (λ z. Has m (z ∷ ys)) (sym e) (i m (inr h))))
    (λ m h. rest-has y m ys xs s h (subst (λ z. Has m (z ∷ xs)) e (j m (inr h)))) in
    cc

-- ---- lists of numbers

both-true : (a b : Bool) → (a && b) ≡ true → (a ≡ true) × (b ≡ true)
both-true true b e = (refl, e)
both-true false b e = absurd (cc)

pub bytes-same : (a b : List ℕ) → bytes_eq a b ≡ true → a ≡ b
bytes-same [] [] t = refl
bytes-same [] (y ∷ b) t = absurd (cc)
bytes-same (x ∷ a) [] t = absurd (cc)
bytes-same (x ∷ a) (y ∷ b) t = let k = both-true (nat_eq x y) (bytes_eq a b) t in let e : x ≡ y = grind (arith, nat_tests, k.0) in let f = bytes-same a b k.1 in cc

pub bytes-itself : (a : List ℕ) → bytes_eq a a ≡ true
bytes-itself [] = refl
bytes-itself (x ∷ a) = let e : nat_eq x x ≡ true = grind (arith, nat_tests) in rw e (bytes-itself a)

-- ---- numbers of packs

pub from-map : {X Y : Type 0} (f : X → Y) (y : Y) (xs : List X) → Has y (map f xs) → (x : X) × Has x xs × (f x ≡ y)
from-map f y [] h = absurd h
from-map f y (x ∷ xs) h = elim h [
  | inl e ↦ (x, inl refl, e)
  | inr r ↦ let k = from-map f y xs r in (k.0, inr k.1, k.2)
]

module _ {P : Type 0} (none : P) (packs : List P) where
  abbrev at : ℕ → P
  at n = get_or packs n none

  -- a number whose pack has a number in a list is that number
  number-has : AreApart none packs → (n : ℕ) (key : List ℕ) → n < length packs → Every (λ m. m < length packs) key
      → Has (at n) (map at key) → Has n key
  number-has apart n key l inside h =
      let k = from-map at (at n) key h in
      let e = apart k.0 n (every-has (λ m. m < length packs) k.0 key inside k.1) l k.2 in
      subst (λ m. Has m key) e k.1

  key-includes : AreApart none packs → (key other : List ℕ) (plan longer : List P) → IsKey none packs key plan → IsKey none packs other longer
      → Includes plan longer → Includes key other
  key-includes apart key other plan longer is are i = λ n h.
      number-has apart n other (every-has (λ m. m < length packs) n key is.inside h) are.inside
      (are.there (at n) (i (at n) (is.back (at n) (has-map at n key h))))

  pub key-one : AreApart none packs → (key other : List ℕ) (plan longer : List P) → IsKey none packs key plan → IsKey none packs other longer
      → SameMembers plan longer → key ≡ other
  key-one apart key other plan longer is are s =
      rising-one key other is.rises are.rises
      (key-includes apart key other plan longer is are s.there)
      (key-includes apart other key longer plan are is s.back)

  pub one-key : (key other : List ℕ) (plan longer : List P) → IsKey none packs key plan → IsKey none packs other longer
      → key ≡ other → SameMembers plan longer
  one-key key other plan longer is are e = record {
    there = λ p h. are.back p (subst (λ k. Has p (map at k)) e (is.there p h));
    back = λ p h. is.back p (subst (λ k. Has p (map at k)) (sym e) (are.there p h));
  }

  -- the key of a plan with one pack more
  pub key-longer : (key : List ℕ) (plan : List P) (n : ℕ) → IsKey none packs key plan → n < length packs
      → IsKey none packs (with_number n key) (plan ++ at n ∷ [])
  key-longer key plan n is l = record {
    rises = rises-with n key is.rises;
    inside = every-with (λ m. m < length packs) n key l is.inside;
    there = λ p h. elim (has-append p plan (at n ∷ []) h) [
      | inl a ↦ (let k = from-map at p key (is.there p a) in
          subst (λ q. Has q (map at (with_number n key))) k.2 (has-map at k.0 (with_number n key) (with-has n k.0 key (inr k.1))))
      | inr b ↦ elim b [
        | inl e ↦ subst (λ q. Has q (map at (with_number n key))) e (has-map at n (with_number n key) (with-has n n key (inl refl)))
        | inr never ↦ absurd never
      ]
    ];
    back = λ p h.
        let k = from-map at p (with_number n key) h in
        elim (has-with n k.0 key k.1) [
          | inl e ↦ has-right p plan (at n ∷ []) (inl (ap at e ∙ k.2))
          | inr r ↦ has-left p plan (at n ∷ []) (subst (λ q. Has q plan) k.2 (is.back (at k.0) (has-map at k.0 key r)))
        ];
  }

-- plans have the same packs exactly where their keys are the same
pub same-key : {P O N : Type 0} (w : World P O N) → IsWorld w → (none : P) (packs : List P) → AreApart none packs
    → (key other : List ℕ) (plan longer : List P) → IsKey none packs key plan → IsKey none packs other longer
    → bytes_eq key other ≡ same_packs w plan longer
same-key w is none packs apart key other plan longer a b =
    together (bytes_eq key other) (same_packs w plan longer)
    (λ t. members-same w is plan longer (one-key none packs key other plan longer a b (bytes-same key other t)))
    (λ t. let e = key-one none packs apart key other plan longer a b (same-members w is plan longer t) in
    subst (λ k. bytes_eq key k ≡ true) e (bytes-itself key))

-- ---- the set of keys

or-turn : (a b c : Bool) → (a || (b || c)) ≡ (b || (a || c))
or-turn true true c = refl
or-turn true false c = refl
or-turn false b c = refl

any-last : {V : Type 0} (test : V → Bool) (keys : List V) (key : V)
    → list_any test (keys ++ key ∷ []) ≡ (test key || list_any test keys)
any-last test [] key = refl
any-last test (x ∷ keys) key = ap (λ b. test x || b) (any-last test keys key) ∙ or-turn (test x) (test key) (list_any test keys)

-- a key after an insertion
pub inserted : {V : Type 0} (numbers : V → List ℕ) (keys : List V) (key : V) (q : List ℕ)
    → has_key numbers (insert_key (λ k x. bytes_eq (numbers k) (numbers x)) keys key) q ≡ (bytes_eq q (numbers key) || has_key numbers keys q)
inserted numbers keys key q = elim (cases_Bool (has_key numbers keys (numbers key))) [
  | inl t ↦ rw t (elim (cases_Bool (bytes_eq q (numbers key))) [
    | inl e ↦ rw e (let same = bytes-same q (numbers key) e in ap (has_key numbers keys) same ∙ t)
    | inr g ↦ rw g refl
  ])
  | inr f ↦ rw f (any-last (λ k. bytes_eq q (numbers k)) keys key)
]
