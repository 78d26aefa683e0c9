-- Growing plans, one candidate after the other.
use Rattle.std.proofs.Common.{◌≡◌, ℕ, zero, suc, ◌+◌, ◌<◌, ◌≤◌, Bool, true, false, List, [], ◌∷◌, ◌++◌, map, length, take, get_or, refl, sym, ◌∙◌, ap, subst, inl, inr, arith, append-nil, append_assoc, add-one, drop}
use Rattle.std.specs.Prelude.{◌||◌, filter, if◌then◌else◌, flat_map, nat_lt, nat_le, Option, Some, None}
use Rattle.std.specs.List.{list_any}
use Rattle.std.proofs.lemmas.Bool.{cases_Bool}
use Rattle.std.proofs.lemmas.Bool.Decides.{nat_tests}
use Rattle.std.proofs.lemmas.List.{drop_more, take_more, map-append}
use Rattle.vg_plans.specs.Members.{Every}
use Rattle.vg_plans.specs.Levels.{distinct_onto, grown, candidates, first_least, insert_by, kept_of, kept_within, level_of, met_after, met_within, sort_by}
use Rattle.vg_plans.proofs.Lists.{every-sort, take-whole}
use Rattle.vg_plans.proofs.Prices.{least-append}
use Rattle.vg_beam.specs.Grown.{grown_by, least_from}
use Rattle.vg_plans.proofs.Onto.{onto-append, onto-distinct}

pub any-map : {X Y : Type 0} (f : X → Y) (test : Y → Bool) (xs : List X) → list_any test (map f xs) ≡ list_any (λ x. test (f x)) xs
any-map f test [] = refl
any-map f test (x ∷ xs) = ap (λ b. test (f x) || b) (any-map f test xs)

pub filter-append : {X : Type 0} (test : X → Bool) (xs ys : List X) → filter test (xs ++ ys) ≡ filter test xs ++ filter test ys
filter-append test [] ys = refl
filter-append test (x ∷ xs) ys = elim (cases_Bool (test x)) [
  | inl t ↦ rw t (ap (λ l. x ∷ l) (filter-append test xs ys))
  | inr f ↦ rw f (filter-append test xs ys)
]

-- a test that holds only where another does
pub filter-narrow : {X : Type 0} (wide narrow : X → Bool) → ((x : X) → narrow x ≡ true → wide x ≡ true) → (xs : List X)
    → filter narrow (filter wide xs) ≡ filter narrow xs
filter-narrow wide narrow h [] = refl
filter-narrow wide narrow h (x ∷ xs) = elim (cases_Bool (wide x)) [
  | inl t ↦ elim (cases_Bool (narrow x)) [
    | inl u ↦ rw (t, u) (ap (λ l. x ∷ l) (filter-narrow wide narrow h xs))
    | inr f ↦ rw (t, f) (filter-narrow wide narrow h xs)
  ]
  | inr f ↦ elim (cases_Bool (narrow x)) [
    | inl u ↦ absurd (let k = h x u in cc)
    | inr g ↦ rw (f, g) (filter-narrow wide narrow h xs)
  ]
]

pub filter-front : {X : Type 0} (wide narrow : X → Bool) → ((x : X) → narrow x ≡ true → wide x ≡ true) → (xs ys : List X)
    → filter narrow (filter wide xs ++ ys) ≡ filter narrow (xs ++ ys)
filter-front wide narrow h xs ys =
    filter-append narrow (filter wide xs) ys ∙ ap (λ l. l ++ filter narrow ys) (filter-narrow wide narrow h xs)
    ∙ sym (filter-append narrow xs ys)

pub filter-all : {X : Type 0} (test : X → Bool) → ((x : X) → test x ≡ true) → (xs : List X) → filter test xs ≡ xs
filter-all test h [] = refl
filter-all test h (x ∷ xs) = rw (h x) (ap (λ l. x ∷ l) (filter-all test h xs))

-- one number more of those that pass a test
filter-step : (test : ℕ → Bool) (xs : List ℕ) (i d : ℕ) → i < length xs
    → filter test (take (i + 1) xs) ≡ filter test (take i xs) ++ filter test (get_or xs i d ∷ [])
filter-step test xs i d l = ap (filter test) (take_more xs i d l) ∙ filter-append test (take i xs) (get_or xs i d ∷ [])

pub filter-passed : (test : ℕ → Bool) (xs before old new : List ℕ) (i d : ℕ) → i < length xs → test (get_or xs i d) ≡ true
    → old ≡ before ++ filter test (take i xs) → new ≡ old ++ get_or xs i d ∷ [] → new ≡ before ++ filter test (take (i + 1) xs)
filter-passed test xs before old new i d l t o e =
    let x = get_or xs i d in
    let one : filter test (x ∷ []) ≡ x ∷ [] = rw t refl in
    e ∙ ap (λ q. q ++ x ∷ []) o ∙ append_assoc before (filter test (take i xs)) (x ∷ [])
    ∙ ap (λ q. before ++ q) (sym (filter-step test xs i d l ∙ ap (λ q. filter test (take i xs) ++ q) one))

pub filter-missed : (test : ℕ → Bool) (xs before old new : List ℕ) (i d : ℕ) → i < length xs → test (get_or xs i d) ≡ false
    → old ≡ before ++ filter test (take i xs) → new ≡ old → new ≡ before ++ filter test (take (i + 1) xs)
filter-missed test xs before old new i d l f o e =
    let x = get_or xs i d in
    let none : filter test (x ∷ []) ≡ [] = rw f refl in
    e ∙ o
    ∙ ap (λ q. before ++ q)
    (sym (filter-step test xs i d l ∙ ap (λ q. filter test (take i xs) ++ q) none ∙ append-nil (filter test (take i xs))))

-- those of two lists that pass a test, one list after the other
pub filter-both : (test : ℕ → Bool) (xs ys none one both all before behind : List ℕ) → none ≡ [] → before ≡ xs → behind ≡ ys
    → one ≡ none ++ filter test before → both ≡ one ++ filter test behind → all ≡ both → all ≡ filter test (xs ++ ys)
filter-both test xs ys none one both all before behind n b e o m a =
    a ∙ m ∙ ap (λ l. l ++ filter test behind) (o ∙ ap (λ l. l ++ filter test before) n)
    ∙ sym (filter-append test before behind) ∙ ap (λ l. filter test (l ++ behind)) b ∙ ap (λ l. filter test (xs ++ l)) e

-- ---- one candidate

module _ {P : Type 0} (test : P → Bool) (same : List P → List P → Bool) (plan : List P) where
  pub grown-refused : (met : List (List P)) (p : P) → test p ≡ false → met ≡ distinct_onto same met (grown_by test plan (p ∷ []))
  grown-refused met p f = rw f refl

  pub grown-known : (met : List (List P)) (p : P) → list_any (same (plan ++ p ∷ [])) met ≡ true → met ≡ distinct_onto same met (grown_by test plan (p ∷ []))
  grown-known met p t = elim (cases_Bool (test p)) [
    | inl y ↦ rw (y, t) refl
    | inr n ↦ rw n refl
  ]

  pub grown-new : (met : List (List P)) (p : P) → test p ≡ true → list_any (same (plan ++ p ∷ [])) met ≡ false
      → met ++ (plan ++ p ∷ []) ∷ [] ≡ distinct_onto same met (grown_by test plan (p ∷ []))
  grown-new met p t f = rw (t, f) refl

  grown-both : (xs ys : List P) → grown_by test plan (xs ++ ys) ≡ grown_by test plan xs ++ grown_by test plan ys
  grown-both xs ys = ap (map (λ p. plan ++ p ∷ [])) (filter-append test xs ys) ∙ map-append (λ p. plan ++ p ∷ []) (filter test xs) (filter test ys)

  -- one number more of those that are tried
  pub grown-step : (at : ℕ → P) (tried : List ℕ) (i n : ℕ) (old met new : List (List P)) → i < length tried → n ≡ get_or tried i n
      → met ≡ distinct_onto same old (grown_by test plan (map at (take i tried)))
      → new ≡ distinct_onto same met (grown_by test plan (at n ∷ []))
      → new ≡ distinct_onto same old (grown_by test plan (map at (take (i + 1) tried)))
  grown-step at tried i n old met new l is m e =
      let more : take (i + 1) tried ≡ take i tried ++ n ∷ [] = take_more tried i n l ∙ ap (λ p. take i tried ++ p ∷ []) (sym is) in
      let packs : map at (take (i + 1) tried) ≡ map at (take i tried) ++ at n ∷ [] = ap (map at) more ∙ map-append at (take i tried) (n ∷ []) in
      e ∙ ap (λ l. distinct_onto same l (grown_by test plan (at n ∷ []))) m
      ∙ sym (onto-append same old (grown_by test plan (map at (take i tried))) (grown_by test plan (at n ∷ [])))
      ∙ ap (distinct_onto same old) (sym (ap (grown_by test plan) packs ∙ grown-both (map at (take i tried)) (at n ∷ [])))

-- ---- one plan of the level

pub flat-snoc : {X Y : Type 0} (f : X → List Y) (xs : List X) (x : X) → flat_map f (xs ++ x ∷ []) ≡ flat_map f xs ++ f x
flat-snoc f [] x = append-nil (f x)
flat-snoc f (y ∷ xs) x = ap (λ l. f y ++ l) (flat-snoc f xs x) ∙ sym (append_assoc (f y) (flat_map f xs) (f x))

module _ {P : Type 0} (follows : List P → List P) (same : List P → List P → Bool) (plans : List (List P)) where
  -- what the plans up to one give
  abbrev pub grown_from : ℕ → List (List P)
  grown_from i = distinct_onto same [] (flat_map (grown follows) (take i plans))

  pub plans-step : (i : ℕ) (plan : List P) (met new : List (List P)) → i < length plans → plan ≡ get_or plans i []
      → met ≡ grown_from i → new ≡ distinct_onto same met (grown follows plan) → new ≡ grown_from (i + 1)
  plans-step i plan met new l is m e =
      let more : take (i + 1) plans ≡ take i plans ++ plan ∷ [] = take_more plans i [] l ∙ ap (λ p. take i plans ++ p ∷ []) (sym is) in
      let flat : flat_map (grown follows) (take (i + 1) plans) ≡ flat_map (grown follows) (take i plans) ++ grown follows plan =
      ap (flat_map (grown follows)) more ∙ flat-snoc (grown follows) (take i plans) plan in
      e ∙ ap (λ q. distinct_onto same q (grown follows plan)) m
      ∙ sym (onto-append same [] (flat_map (grown follows) (take i plans)) (grown follows plan))
      ∙ ap (distinct_onto same []) (sym flat)

  pub plans-end : (i : ℕ) (met : List (List P)) → length plans ≤ i → met ≡ grown_from i → met ≡ candidates follows same plans
  plans-end i met l m =
      m ∙ ap (λ ps. distinct_onto same [] (flat_map (grown follows) ps)) (take-whole i plans l)
      ∙ onto-distinct same (flat_map (grown follows) plans)

-- ---- candidates by their costs

if-true : {X : Type 0} (b : Bool) (x y : X) → b ≡ true → (if b then x else y) ≡ x
if-true b x y t = rw t refl

if-false : {X : Type 0} (b : Bool) (x y : X) → b ≡ false → (if b then x else y) ≡ y
if-false b x y f = rw f refl

module _ {C P : Type 0} (plan_of : C → P) (price : C → ℕ) (cost : P → ℕ) where
  abbrev pub HasPrice : C → Type 0
  HasPrice c = price c ≡ cost (plan_of c)

  map-insert : (c : C) (cs : List C) → HasPrice c → Every HasPrice cs → map plan_of (insert_by price c cs) ≡ insert_by cost (plan_of c) (map plan_of cs)
  map-insert c [] h a = refl
  map-insert c (d ∷ cs) h a =
      let k = a.0 in
      let same_test : nat_le (price c) (price d) ≡ nat_le (cost (plan_of c)) (cost (plan_of d)) = rw (h, k) refl in
      elim (cases_Bool (nat_le (price c) (price d))) [
        | inl t ↦ let u : nat_le (cost (plan_of c)) (cost (plan_of d)) ≡ true = sym same_test ∙ t in rw (t, u) refl
        | inr f ↦ let u : nat_le (cost (plan_of c)) (cost (plan_of d)) ≡ false = sym same_test ∙ f in rw (f, u) (ap (λ l. plan_of d ∷ l) (map-insert c cs h a.1))
      ]

  map-sort : (cs : List C) → Every HasPrice cs → map plan_of (sort_by price cs) ≡ sort_by cost (map plan_of cs)
  map-sort [] a = refl
  map-sort (c ∷ cs) a =
      map-insert c (sort_by price cs) a.0 (every-sort HasPrice price cs a.1) ∙ ap (insert_by cost (plan_of c)) (map-sort cs a.1)

  map-take : (n : ℕ) (cs : List C) → map plan_of (take n cs) ≡ take n (map plan_of cs)
  map-take zero cs = refl
  map-take (suc n) [] = refl
  map-take (suc n) (c ∷ cs) = ap (λ l. plan_of c ∷ l) (map-take n cs)

  length-plans : (cs : List C) → length (map plan_of cs) ≡ length cs
  length-plans [] = refl
  length-plans (c ∷ cs) = ap suc (length-plans cs)

  pub map-kept : (width : ℕ) (cs : List C) → Every HasPrice cs → map plan_of (kept_of price width cs) ≡ kept_of cost width (map plan_of cs)
  map-kept width cs a =
      let l = length-plans cs in
      elim (cases_Bool (nat_le (length cs) width)) [
        | inl t ↦ let u : nat_le (length (map plan_of cs)) width ≡ true = ap (λ n. nat_le n width) l ∙ t in rw (t, u) refl
        | inr f ↦ let u : nat_le (length (map plan_of cs)) width ≡ false = ap (λ n. nat_le n width) l ∙ f in
            rw (f, u) (map-take width (sort_by price cs) ∙ ap (take width) (map-sort cs a))
      ]

  -- the plan of what is found, else another
  abbrev pub plan_or : P → Option C → P
  plan_or best None = best
  plan_or best (Some c) = plan_of c

  pub least-plan : (best : P) (bound : ℕ) (found : Option C) (cs : List C) → bound ≡ cost (plan_or best found) → Every HasPrice cs
      → plan_or best (least_from price bound found cs) ≡ first_least cost (plan_or best found) (map plan_of cs)
  least-plan best bound found [] h a = refl
  least-plan best bound found (c ∷ cs) h a =
      let same_test : nat_lt (price c) bound ≡ nat_lt (cost (plan_of c)) (cost (plan_or best found)) = ap (λ n. nat_lt n bound) a.0 ∙ ap (nat_lt (cost (plan_of c))) h in
      elim (cases_Bool (nat_lt (price c) bound)) [
        | inl t ↦ ap (plan_or best) (if-true (nat_lt (price c) bound) (least_from price (price c) (Some c) cs) (least_from price bound found cs) t)
            ∙ least-plan best (price c) (Some c) cs a.0 a.1
            ∙ ap (λ q. first_least cost q (map plan_of cs)) (sym (if-true (nat_lt (cost (plan_of c)) (cost (plan_or best found))) (plan_of c) (plan_or best found) (sym same_test ∙ t)))
        | inr f ↦ ap (plan_or best) (if-false (nat_lt (price c) bound) (least_from price (price c) (Some c) cs) (least_from price bound found cs) f)
            ∙ least-plan best bound found cs h a.1
            ∙ ap (λ q. first_least cost q (map plan_of cs)) (sym (if-false (nat_lt (cost (plan_of c)) (cost (plan_or best found))) (plan_of c) (plan_or best found) (sym same_test ∙ f)))
      ]

  -- the first of the least price has the plan that is the first of the least cost
  abbrev pub HasLeast : C → P → List C → Type 0
  HasLeast best plan cs = (plan_of (first_least price best cs) ≡ first_least cost plan (map plan_of cs)) × HasPrice (first_least price best cs)

  least-along : (best c : C) (plan : P) (cs : List C) → best ≡ c → plan ≡ plan_of c → HasLeast c (plan_of c) cs → HasLeast best plan cs
  least-along best c plan cs e f h = subst (λ b. HasLeast b plan cs) (sym e) (subst (λ q. HasLeast c q cs) (sym f) h)

  pub least-priced : (best : C) (cs : List C) → HasPrice best → Every HasPrice cs → HasLeast best (plan_of best) cs
  least-priced best [] h a = (refl, h)
  least-priced best (c ∷ cs) h a =
      let mine = nat_lt (price c) (price best) in
      let own = nat_lt (cost (plan_of c)) (cost (plan_of best)) in
      let same_test : mine ≡ own = ap (λ n. nat_lt n (price best)) a.0 ∙ ap (nat_lt (cost (plan_of c))) h in
      let next = least-along (if mine then c else best) in
      elim (cases_Bool mine) [
        | inl t ↦ next c (if own then plan_of c else plan_of best) cs (if-true mine c best t)
            (if-true own (plan_of c) (plan_of best) (sym same_test ∙ t)) (least-priced c cs a.0 a.1)
        | inr f ↦ next best (if own then plan_of c else plan_of best) cs (if-false mine c best f)
            (if-false own (plan_of c) (plan_of best) (sym same_test ∙ f)) (least-priced best cs h a.1)
      ]

module _ {C : Type 0} (price : C → ℕ) (bound : ℕ) (found : Option C) (cs : List C) (i : ℕ) (c : C) (l : i < length cs) (is : c ≡ get_or cs i c) where
  drop-one : drop i cs ≡ c ∷ drop (i + 1) cs
  drop-one = drop_more cs i c l ∙ ap (λ d. d ∷ drop (i + 1) cs) (sym is)

  pub least-less : price c < bound → least_from price (price c) (Some c) (drop (i + 1) cs) ≡ least_from price bound found (drop i cs)
  least-less less =
      let t : nat_lt (price c) bound ≡ true = grind (arith, nat_tests, less) in
      sym (ap (least_from price bound found) drop-one ∙ if-true (nat_lt (price c) bound) (least_from price (price c) (Some c) (drop (i + 1) cs)) (least_from price bound found (drop (i + 1) cs)) t)

  pub least-more : bound ≤ price c → least_from price bound found (drop (i + 1) cs) ≡ least_from price bound found (drop i cs)
  least-more more =
      let f : nat_lt (price c) bound ≡ false = grind (arith, nat_tests, more) in
      sym (ap (least_from price bound found) drop-one ∙ if-false (nat_lt (price c) bound) (least_from price (price c) (Some c) (drop (i + 1) cs)) (least_from price bound found (drop (i + 1) cs)) f)

-- what holds of a value, if there is one
abbrev pub OfSome : {C : Type 0} → (C → Type 0) → Option C → Type 0
OfSome Q None = Unit {0}
OfSome Q (Some c) = Q c

pub least-is : {C : Type 0} (Q : C → Type 0) (price : C → ℕ) (bound : ℕ) (found : Option C) (cs : List C) → OfSome Q found → Every Q cs
    → OfSome Q (least_from price bound found cs)
least-is Q price bound found [] h a = h
least-is Q price bound found (c ∷ cs) h a = elim (cases_Bool (nat_lt (price c) bound)) [
  | inl t ↦ subst (OfSome Q) (sym (if-true (nat_lt (price c) bound) (least_from price (price c) (Some c) cs) (least_from price bound found cs) t))
      (least-is Q price (price c) (Some c) cs a.0 a.1)
  | inr f ↦ subst (OfSome Q) (sym (if-false (nat_lt (price c) bound) (least_from price (price c) (Some c) cs) (least_from price bound found cs) f))
      (least-is Q price bound found cs h a.1)
]

pub lesser-second : {P : Type 0} (cost : P → ℕ) (first second : P) → cost second < cost first → second ≡ first_least cost first (second ∷ [])
lesser-second cost first second l = let t : nat_lt (cost second) (cost first) ≡ true = grind (arith, nat_tests, l) in rw t refl

pub lesser-first : {P : Type 0} (cost : P → ℕ) (first second : P) → cost first ≤ cost second → first ≡ first_least cost first (second ∷ [])
lesser-first cost first second l = let f : nat_lt (cost second) (cost first) ≡ false = grind (arith, nat_tests, l) in rw f refl

pub kept-cut : {X : Type 0} (key : X → ℕ) (width : ℕ) (xs : List X) → width < length xs → kept_of key width xs ≡ take width (sort_by key xs)
kept-cut key width xs lt = let f : nat_le (length xs) width ≡ false = grind (arith, nat_tests, lt) in rw f refl

-- ---- one size after the other

module _ {P : Type 0} (follows : List P → List P) (same : List P → List P → Bool) (cost : List P → ℕ) (width : ℕ) where
  pub first-level : (level : List (List P)) → level ≡ [] ∷ [] → level ≡ level_of follows same cost width 0
  unfolding level_of
  first-level level e = e

  pub next-level : (d : ℕ) (level next : List (List P)) → level ≡ level_of follows same cost width d
      → next ≡ kept_of cost width (candidates follows same level) → next ≡ level_of follows same cost width (d + 1)
  unfolding level_of
  next-level d level next e n = rw add-one (n ∙ ap (λ l. kept_of cost width (candidates follows same l)) e)

  -- no plan is met yet
  pub first-met : (first : List P) → first ≡ first_least cost first (met_within follows same cost width 0)
  unfolding met_within
  first-met first = refl

  pub next-met : (d : ℕ) (level : List (List P)) (first best better : List P) → level ≡ level_of follows same cost width d
      → best ≡ first_least cost first (met_within follows same cost width d) → better ≡ first_least cost best (candidates follows same level)
      → better ≡ first_least cost first (met_within follows same cost width (d + 1))
  unfolding met_within
  next-met d level first best better e b n =
      rw add-one (n ∙ ap (λ l. first_least cost l (candidates follows same level)) b
      ∙ ap (λ l. first_least cost (first_least cost first (met_within follows same cost width d)) (candidates follows same l)) e
      ∙ sym (least-append cost first (met_within follows same cost width d) (met_after follows same cost width d)))

  -- no plan is kept yet, whose completed plan counts
  pub first-kept : (whole : List P → List P) (start : List P)
      → start ≡ first_least cost start (map whole (kept_within follows same cost width 0))
  unfolding kept_within
  first-kept whole start = refl

  pub next-kept : (whole : List P → List P) (d : ℕ) (level : List (List P)) (start best better : List P)
      → level ≡ level_of follows same cost width (d + 1)
      → best ≡ first_least cost start (map whole (kept_within follows same cost width d))
      → better ≡ first_least cost best (map whole level)
      → better ≡ first_least cost start (map whole (kept_within follows same cost width (d + 1)))
  unfolding kept_within
  next-kept whole d level start best better e b n =
      rw add-one (n ∙ ap (λ l. first_least cost l (map whole level)) b
      ∙ ap (λ l. first_least cost (first_least cost start (map whole (kept_within follows same cost width d))) (map whole l)) (e ∙ ap (level_of follows same cost width) (add-one d))
      ∙ sym (least-append cost start (map whole (kept_within follows same cost width d)) (map whole (level_of follows same cost width (suc d))))
      ∙ ap (first_least cost start) (sym (map-append whole (kept_within follows same cost width d) (level_of follows same cost width (suc d)))))

  -- nothing is met or kept yet
  pub none-found : (whole : List P → List P) (first : List P)
      → first ≡ first_least cost first (met_within follows same cost width 0 ++ map whole (kept_within follows same cost width 0))
  unfolding met_within kept_within
  none-found whole first = refl
