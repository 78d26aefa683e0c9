-- Groups by their numbers: those that have a unit, and the least from a number on.
use Rattle.std.proofs.Common.{◌≡◌, ℕ, zero, suc, ◌+◌, ◌-◌, ◌<◌, ◌≤◌, Bool, true, false, List, [], ◌∷◌, ◌++◌, map, take, length, get_or, refl, sym, ◌∙◌, ap, subst, inl, inr, arith, append-nil}
use Rattle.std.specs.Prelude.{◌&&◌, ◌||◌, filter, nat_eq, nat_le, nat_lt, Option, Some, None, if◌then◌else◌}
use Rattle.std.specs.List.{filter_map, list_any}
use Rattle.std.proofs.lemmas.Bool.{cases_Bool}
use Rattle.std.proofs.lemmas.Bool.Decides.{nat_tests}
use Rattle.vg_plans.specs.Members.{Has}
use Rattle.vg_plans.specs.World.{is_in}
use Rattle.vg_plans.proofs.Members.{any-found}
use Rattle.vg_shapes.specs.declared.pack.Pack.{Pack}
use Rattle.vg_shapes.specs.Order.{numbers_from}
use Rattle.vg_shapes.specs.Pack.{units_of}
use Rattle.vg_kernel_plans.specs.LoadTable.{HaveUnitsBelow, IsLeast, IsTable, group_at, has_unit, having, is_below, is_lane, is_wanted_from, least_onto, no_group, numbers_of}
use Rattle.vg_kernel_plans.proofs.FirstLoads.{numbers-more}
use Rattle.vg_kernel_plans.proofs.SameTests.{both-true, eq-itself}

-- a lane has a value where it is among those of the lanes
pub some_lane_is : (v : ℕ) (lanes : List (Option ℕ)) → list_any (is_lane v) lanes ≡ is_in v (filter_map (λ u. u) lanes)
some_lane_is v [] = refl
some_lane_is v (None ∷ lanes) = some_lane_is v lanes
some_lane_is v (Some u ∷ lanes) = ap (λ b. nat_eq v u || b) (some_lane_is v lanes)

-- ---- the least number

-- from a number on a number is among these
abbrev pub is_from : ℕ → List ℕ → ℕ → Bool
is_from from ns k = nat_le from k && is_in k ns

-- of two tests
abbrev IsEither : (ℕ → Bool) → (ℕ → Bool) → (ℕ → Bool) → Type 0
IsEither f g h = (k : ℕ) → h k ≡ (f k || g k)

or-none : (b : Bool) → (b || false) ≡ b
or-none true = refl
or-none false = refl

or-assoc : (a b c : Bool) → (a || (b || c)) ≡ ((a || b) || c)
or-assoc true b c = refl
or-assoc false b c = refl

or-false : (a b : Bool) → a ≡ false → b ≡ false → (a || b) ≡ false
or-false a b e f = rw (e, f) refl

or-left : (a b : Bool) → a ≡ true → (a || b) ≡ true
or-left a b e = rw e refl

or-right : (a b : Bool) → b ≡ true → (a || b) ≡ true
or-right true b e = refl
or-right false b e = e

-- a test that agrees with one has its least number
pub least-agree : (f g : ℕ → Bool) → ((k : ℕ) → f k ≡ g k) → (found : Option ℕ) → IsLeast f found → IsLeast g found
least-agree f g same None h = λ k. sym (same k) ∙ h k
least-agree f g same (Some n) h = (sym (same n) ∙ h.0, λ k l. sym (same k) ∙ h.1 k l)

eq-of : (k n : ℕ) → nat_eq k n ≡ true → k ≡ n
eq-of k n t = grind (arith, nat_tests, t)

-- one more number, which is not below the one from which on numbers count or not below the least so far
not-less : (from n : ℕ) (f : ℕ → Bool) (found : Option ℕ) → IsLeast f found → (nat_le from n && is_below n found) ≡ false
    → IsLeast (λ k. f k || (nat_le from k && nat_eq k n)) found
not-less from n f None h t = λ k. or-false (f k) (nat_le from k && nat_eq k n) (h k) (elim (cases_Bool (nat_eq k n)) [
  | inl e ↦ let same = eq-of k n e in rw same (let out : nat_le from n ≡ false = open-left (nat_le from n) t in rw out refl)
  | inr e ↦ rw e (no-right (nat_le from k))
])
  where
    open-left : (b : Bool) → (b && true) ≡ false → b ≡ false
    open-left true e = absurd (cc)
    open-left false e = refl

    no-right : (b : Bool) → (b && false) ≡ false
    no-right true = refl
    no-right false = refl
not-less from n f (Some m) h t = (
  or-left (f m) _ h.0,
  λ k l. or-false (f k) (nat_le from k && nat_eq k n) (h.1 k l) (elim (cases_Bool (nat_eq k n)) [
    | inl e ↦
        let same = eq-of k n e in
        let low : nat_lt n m ≡ true = let j : n < m = subst (λ x. x < m) same l in grind (arith, nat_tests, j) in
        rw same (let out : nat_le from n ≡ false = open-left (nat_le from n) (nat_lt n m) low t in rw out refl)
    | inr e ↦ rw e (no-right (nat_le from k))
  ]),
)
  where
    open-left : (b c : Bool) → c ≡ true → (b && c) ≡ false → b ≡ false
    open-left true c e f = absurd (cc)
    open-left false c e f = refl

    no-right : (b : Bool) → (b && false) ≡ false
    no-right true = refl
    no-right false = refl

less : (from n : ℕ) (f : ℕ → Bool) (found : Option ℕ) → IsLeast f found → (nat_le from n && is_below n found) ≡ true
    → IsLeast (λ k. f k || (nat_le from k && nat_eq k n)) (Some n)
less from n f found h t =
    let b = both-true (nat_le from n) (is_below n found) t in
    let own : (nat_le from n && nat_eq n n) ≡ true = rw (b.0, eq-itself n) refl in (
      or-right (f n) _ own,
      λ k l. or-false (f k) (nat_le from k && nat_eq k n) (below found h b.1 k l) (
          let other : nat_eq k n ≡ false = grind (arith, nat_tests, l) in
          rw other (no-right (nat_le from k))),
    )
  where
    no-right : (b : Bool) → (b && false) ≡ false
    no-right true = refl
    no-right false = refl

    below : (found : Option ℕ) → IsLeast f found → is_below n found ≡ true → (k : ℕ) → k < n → f k ≡ false
    below None h t k l = h k
    below (Some m) h t k l = let lt : n < m = grind (arith, nat_tests, t) in h.1 k (omega (arith, l, lt))

pub least-more : (from : ℕ) (ns : List ℕ) (f : ℕ → Bool) (found : Option ℕ) → IsLeast f found
    → IsLeast (λ k. f k || is_from from ns k) (least_onto from found ns)
least-more from [] f found h = least-agree f (λ k. f k || is_from from [] k) (λ k. sym (or-none-of k)) found h
  where
    or-none-of : (k : ℕ) → (f k || (nat_le from k && false)) ≡ f k
    or-none-of k = elim (cases_Bool (nat_le from k)) [ inl t ↦ rw t (or-none (f k)) | inr t ↦ rw t (or-none (f k)) ]
least-more from (n ∷ ns) f found h =
    let one : ℕ → Bool = λ k. f k || (nat_le from k && nat_eq k n) in
    least-agree (λ k. one k || is_from from ns k) (λ k. f k || is_from from (n ∷ ns) k) joined _
    (least-more from ns one (if nat_le from n && is_below n found then Some n else found) (elim (cases_Bool (nat_le from n && is_below n found)) [
      | inl t ↦ rw t (less from n f found h t)
      | inr t ↦ rw t (not-less from n f found h t)
    ]))
  where
    joined : (k : ℕ) → ((f k || (nat_le from k && nat_eq k n)) || (nat_le from k && is_in k ns)) ≡ (f k || (nat_le from k && (nat_eq k n || is_in k ns)))
    joined k = shared (f k) (nat_le from k) (nat_eq k n) (is_in k ns)
      where
        shared : (a b c d : Bool) → ((a || (b && c)) || (b && d)) ≡ (a || (b && (c || d)))
        shared true b c d = refl
        shared false true c d = refl
        shared false false c d = refl

-- ---- the numbers of groups

number-in : (f n k : ℕ) → is_in k (numbers_from f n) ≡ (nat_le f k && nat_lt k (f + n))
number-in f zero k = let e : f + 0 ≡ f = omega arith in rw e (grind (arith, nat_tests))
number-in f (suc n) k =
    let e : f + 1 + n ≡ f + suc n = omega arith in
    rw (number-in (f + 1) n k, e) (grind (arith, nat_tests))

in-filter : (test : ℕ → Bool) (k : ℕ) (ns : List ℕ) → is_in k (filter test ns) ≡ (is_in k ns && test k)
in-filter test k [] = refl
in-filter test k (n ∷ ns) = elim (cases_Bool (nat_eq k n)) [
  | inl e ↦
      let same = eq-of k n e in
      elim (cases_Bool (test n)) [
        | inl t ↦ rw (t, e) (sym (ap test same ∙ t))
        | inr t ↦ let off : test k ≡ false = ap test same ∙ t in rw (t, e) (in-filter test k ns ∙ ap (λ b. is_in k ns && b) off ∙ and-off (is_in k ns) ∙ sym off)
      ]
  | inr e ↦ elim (cases_Bool (test n)) [
    | inl t ↦ rw (t, e) (in-filter test k ns)
    | inr t ↦ rw (t, e) (in-filter test k ns)
  ]
]
  where
    and-off : (b : Bool) → (b && false) ≡ false
    and-off true = refl
    and-off false = refl

numbers-are : (groups : List Pack) (v k : ℕ) → is_in k (numbers_of groups v) ≡ has_unit groups v k
numbers-are groups v k =
    in-filter (has_unit groups v) k (numbers_from 0 (length groups)) ∙ ap (λ b. b && has_unit groups v k) (number-in 0 (length groups) k)
    ∙ once (nat_le 0 k) (nat_lt k (0 + length groups)) (nat_lt k (length groups)) (is_in v (units_of (group_at groups k))) (grind (arith, nat_tests)) (let e : 0 + length groups ≡ length groups = omega arith in ap (nat_lt k) e)
  where
    once : (a b c d : Bool) → a ≡ true → b ≡ c → ((a && b) && (c && d)) ≡ (c && d)
    once a b true d e f = rw (e, f) refl
    once a b false d e f = rw (e, f) refl

-- what a table has for a unit
pub table-has : (groups : List Pack) (table : List (List ℕ)) → IsTable groups table → (v k : ℕ) → is_in k (get_or table v []) ≡ has_unit groups v k
table-has groups table is v k = elim (cases_Bool (nat_lt v (length table))) [
  | inl t ↦ ap (is_in k) (is.numbers v (grind (arith, nat_tests, t))) ∙ numbers-are groups v k
  | inr f ↦
      let past : length table ≤ v = grind (arith, nat_tests, f) in
      ap (is_in k) (past-none table v past) ∙ sym (is.others v k past)
]
  where
    past-none : (xs : List (List ℕ)) (v : ℕ) → length xs ≤ v → get_or xs v [] ≡ []
    past-none [] zero l = refl
    past-none [] (suc v) l = refl
    past-none (x ∷ xs) zero l = absurd (omega (arith, l))
    past-none (x ∷ xs) (suc v) l = past-none xs v (omega (arith, l))

-- one more unit whose groups are wanted
pub next-more : (groups : List Pack) (table : List (List ℕ)) → IsTable groups table → (units : List ℕ) (v from : ℕ) (found new : Option ℕ) (numbers : List ℕ)
    → numbers ≡ get_or table v [] → new ≡ least_onto from found numbers → IsLeast (is_wanted_from groups units from) found
    → IsLeast (is_wanted_from groups (units ++ v ∷ []) from) new
next-more groups table is units v from found new numbers n e h =
    subst (IsLeast (is_wanted_from groups (units ++ v ∷ []) from)) (sym e)
    (least-agree (λ k. is_wanted_from groups units from k || is_from from numbers k) (is_wanted_from groups (units ++ v ∷ []) from)
    (λ k. ap (λ b. is_wanted_from groups units from k || (nat_le from k && b)) (ap (is_in k) n ∙ table-has groups table is v k)
    ∙ shared (nat_le from k) (list_any (λ u. has_unit groups u k) units) (has_unit groups v k) ∙ ap (λ b. nat_le from k && b) (sym (any-push (λ u. has_unit groups u k) units v)))
    (least_onto from found numbers) (least-more from numbers (is_wanted_from groups units from) found h))
  where
    shared : (b c d : Bool) → ((b && c) || (b && d)) ≡ (b && (c || d))
    shared true c d = refl
    shared false c d = refl

    any-push : (test : ℕ → Bool) (xs : List ℕ) (x : ℕ) → list_any test (xs ++ x ∷ []) ≡ (list_any test xs || test x)
    any-push test [] x = elim (cases_Bool (test x)) [ inl t ↦ rw t refl | inr f ↦ rw f refl ]
    any-push test (y ∷ xs) x = ap (λ b. test y || b) (any-push test xs x) ∙ or-assoc (test y) (list_any test xs) (test x)

pub next-none : (groups : List Pack) (from : ℕ) → IsLeast (is_wanted_from groups [] from) None
next-none groups from k = elim (cases_Bool (nat_le from k)) [ inl t ↦ rw t refl | inr f ↦ rw f refl ]

-- ---- the groups in their order

-- a group has one of these units
abbrev has_some : List ℕ → Pack → Bool
has_some units g = list_any (λ v. is_in v (units_of g)) units

-- the test of a number that is there
wanted-there : (groups : List Pack) (units : List ℕ) (from k : ℕ) → from ≤ k → k < length groups
    → is_wanted_from groups units from k ≡ has_some units (group_at groups k)
wanted-there groups units from k l m =
    let a : nat_le from k ≡ true = grind (arith, nat_tests, l) in
    rw a (each units)
  where
    each : (vs : List ℕ) → list_any (λ v. has_unit groups v k) vs ≡ has_some vs (group_at groups k)
    each [] = refl
    each (v ∷ vs) = let b : nat_lt k (length groups) ≡ true = grind (arith, nat_tests, m) in rw b (ap (λ c. is_in v (units_of (group_at groups k)) || c) (each vs))

-- a number that passes is there
wanted-inside : (groups : List Pack) (units : List ℕ) (from k : ℕ) → is_wanted_from groups units from k ≡ true → (from ≤ k) × (k < length groups)
wanted-inside groups units from k t =
    let b = both-true (nat_le from k) (list_any (λ v. has_unit groups v k) units) t in
    let f = any-found (λ v. has_unit groups v k) units b.1 in
    let c = both-true (nat_lt k (length groups)) (is_in f.0 (units_of (group_at groups k))) f.2 in
    (grind (arith, nat_tests, b.0), grind (arith, nat_tests, c.0))

take-more : {X : Type 0} (xs : List X) (k : ℕ) (d : X) → k < length xs → take (suc k) xs ≡ take k xs ++ get_or xs k d ∷ []
take-more [] k d l = absurd (omega (arith, l))
take-more (x ∷ xs) zero d l = refl
take-more (x ∷ xs) (suc k) d l = ap (λ ys. x ∷ ys) (take-more xs k d (omega (arith, l)))

filter-append : {X : Type 0} (test : X → Bool) (xs ys : List X) → filter test (xs ++ ys) ≡ filter test xs ++ filter test ys
filter-append test [] ys = refl
filter-append test (x ∷ xs) ys = elim (cases_Bool (test x)) [
  | inl t ↦ rw t (ap (λ zs. x ∷ zs) (filter-append test xs ys))
  | inr f ↦ rw f (filter-append test xs ys)
]

-- where no group from a number up to another has one of the units
skipped : (groups : List Pack) (units : List ℕ) (from n : ℕ) → from + n ≤ length groups
    → ((k : ℕ) → from ≤ k → k < from + n → has_some units (group_at groups k) ≡ false)
    → having (take (from + n) groups) units ≡ having (take from groups) units
skipped groups units from zero l none = let e : from + 0 ≡ from = omega arith in ap (λ m. having (take m groups) units) e
skipped groups units from (suc n) l none =
    let e : from + suc n ≡ suc (from + n) = omega arith in
    let off = none (from + n) (omega arith) (omega arith) in
    ap (λ m. having (take m groups) units) e
    ∙ ap (filter (has_some units)) (take-more groups (from + n) no_group (omega (arith, l)))
    ∙ filter-append (has_some units) (take (from + n) groups) (group_at groups (from + n) ∷ [])
    ∙ ap (λ xs. having (take (from + n) groups) units ++ xs) (lone off)
    ∙ append-nil (having (take (from + n) groups) units)
    ∙ skipped groups units from n (omega (arith, l)) (λ k a b. none k a (omega (arith, b)))
  where
    lone : has_some units (group_at groups (from + n)) ≡ false → filter (has_some units) (group_at groups (from + n) ∷ []) ≡ []
    lone f = rw f refl

-- what is found is the next group that has one of the units
pub having-more : (groups : List Pack) (units : List ℕ) (from n : ℕ) (packs new : List Pack) (copy : Pack)
    → packs ≡ having (take from groups) units → IsLeast (is_wanted_from groups units from) (Some n) → copy ≡ group_at groups n
    → new ≡ packs ++ copy ∷ [] → new ≡ having (take (n + 1) groups) units
having-more groups units from n packs new copy p h c e =
    let i = wanted-inside groups units from n h.0 in
    let on : has_some units (group_at groups n) ≡ true = sym (wanted-there groups units from n i.0 i.1) ∙ h.0 in
    let d : from + (n - from) ≡ n = omega (arith, i.0) in
    let same : having (take n groups) units ≡ having (take from groups) units =
    ap (λ m. having (take m groups) units) (sym d)
    ∙ skipped groups units from (n - from) (omega (arith, d, i.1)) (λ k a b.
    sym (wanted-there groups units from k a (omega (arith, b, d, i.1))) ∙ h.1 k (omega (arith, b, d)))
    in
    let one : n + 1 ≡ suc n = omega arith in
    e ∙ ap (λ x. packs ++ x ∷ []) c ∙ ap (λ xs. xs ++ group_at groups n ∷ []) (p ∙ sym same)
    ∙ ap (λ xs. having (take n groups) units ++ xs) (sym (lone on))
    ∙ sym (filter-append (has_some units) (take n groups) (group_at groups n ∷ []))
    ∙ ap (filter (has_some units)) (sym (take-more groups n no_group i.1))
    ∙ ap (λ m. having (take m groups) units) (sym one)
  where
    lone : has_some units (group_at groups n) ≡ true → filter (has_some units) (group_at groups n ∷ []) ≡ group_at groups n ∷ []
    lone t = rw t refl

take-past : {X : Type 0} (xs : List X) → take (length xs) xs ≡ xs
take-past [] = refl
take-past (x ∷ xs) = ap (λ ys. x ∷ ys) (take-past xs)

pub having-end : (groups : List Pack) (units : List ℕ) (from : ℕ) (packs : List Pack) → from ≤ length groups
    → packs ≡ having (take from groups) units → IsLeast (is_wanted_from groups units from) None → packs ≡ having groups units
having-end groups units from packs l p h =
    let d : from + (length groups - from) ≡ length groups = omega (arith, l) in
    p ∙ sym (skipped groups units from (length groups - from) (omega (arith, d)) (λ k a b.
    sym (wanted-there groups units from k a (omega (arith, b, d))) ∙ h k))
    ∙ ap (λ m. having (take m groups) units) d ∙ ap (λ xs. having xs units) (take-past groups)

-- what is found is inside
pub next-inside : (groups : List Pack) (units : List ℕ) (from n : ℕ) (next : Option ℕ) → next ≡ Some n
    → IsLeast (is_wanted_from groups units from) next → (from ≤ n) × (n < length groups)
next-inside groups units from n next e h =
    wanted-inside groups units from n (subst (IsLeast (is_wanted_from groups units from)) e h).0

-- ---- the table

pub table-made : (groups : List Pack) (n : ℕ) → HaveUnitsBelow groups n → IsTable groups (map (numbers_of groups) (numbers_from 0 n))
table-made groups n below = record {
  numbers = λ v l.
      let z : 0 + v ≡ v = omega arith in
      mapped 0 n v (let e = length-mapped 0 n in omega (arith, e, l)) ∙ ap (numbers_of groups) z;
  others = λ v k l. elim (cases_Bool (has_unit groups v k)) [
    | inl t ↦
        let b = both-true (nat_lt k (length groups)) (is_in v (units_of (group_at groups k))) t in
        let there : k < length groups = grind (arith, nat_tests, b.0) in
        let low = below (group_at groups k) (get-has groups k there) v b.1 in
        let e = length-mapped 0 n in
        absurd (omega (arith, e, low, l))
    | inr f ↦ f
  ];
}
  where
    length-mapped : (f n : ℕ) → length (map (numbers_of groups) (numbers_from f n)) ≡ n
    length-mapped f zero = refl
    length-mapped f (suc n) = let h = length-mapped (f + 1) n in omega (arith, h)

    mapped : (f n v : ℕ) → v < n → get_or (map (numbers_of groups) (numbers_from f n)) v [] ≡ numbers_of groups (f + v)
    mapped f zero v l = absurd (omega (arith, l))
    mapped f (suc n) zero l = let e : f ≡ f + 0 = omega arith in ap (numbers_of groups) e
    mapped f (suc n) (suc v) l = let e : f + 1 + v ≡ f + suc v = omega arith in mapped (f + 1) n v (omega (arith, l)) ∙ ap (numbers_of groups) e

    get-has : (xs : List Pack) (k : ℕ) → k < length xs → Has (get_or xs k no_group) xs
    get-has [] k l = absurd (omega (arith, l))
    get-has (x ∷ xs) zero l = inl refl
    get-has (x ∷ xs) (suc k) l = inr (get-has xs k (omega (arith, l)))

-- the same of a table that was made over these groups
pub table-there : (groups slice : List Pack) (n : ℕ) (table : List (List ℕ)) → slice ≡ groups → table ≡ map (numbers_of slice) (numbers_from 0 n)
    → HaveUnitsBelow groups n → IsTable groups table
table-there groups slice n table e t below =
    subst (IsTable groups) (sym (t ∙ ap (λ gs. map (numbers_of gs) (numbers_from 0 n)) e)) (table-made groups n below)

-- ---- one after the other

up-to : (n : ℕ) → numbers_from 0 (n + 1) ≡ numbers_from 0 n ++ n ∷ []
up-to n =
    let one : n + 1 ≡ suc n = omega arith in
    let z : 0 + n ≡ n = omega arith in
    ap (numbers_from 0) one ∙ numbers-more 0 n ∙ ap (λ x. numbers_from 0 n ++ x ∷ []) z

map-push : {X Y : Type 0} (f : X → Y) (xs : List X) (x : X) → map f (xs ++ x ∷ []) ≡ map f xs ++ f x ∷ []
map-push f [] x = refl
map-push f (y ∷ xs) x = ap (λ ys. f y ∷ ys) (map-push f xs x)

pub table-more : (groups : List Pack) (n : ℕ) (old new : List (List ℕ)) (numbers : List ℕ) → old ≡ map (numbers_of groups) (numbers_from 0 n)
    → numbers ≡ numbers_of groups n → new ≡ old ++ numbers ∷ [] → new ≡ map (numbers_of groups) (numbers_from 0 (n + 1))
table-more groups n old new numbers o m e =
    e ∙ ap (λ x. old ++ x ∷ []) m ∙ ap (λ xs. xs ++ numbers_of groups n ∷ []) o
    ∙ sym (ap (map (numbers_of groups)) (up-to n) ∙ map-push (numbers_of groups) (numbers_from 0 n) n)

pub number-on : (groups : List Pack) (v n : ℕ) (old new : List ℕ) → has_unit groups v n ≡ true → new ≡ old ++ n ∷ []
    → new ≡ old ++ filter (has_unit groups v) (n ∷ [])
number-on groups v n old new t e = rw t e

pub number-off : (groups : List Pack) (v n : ℕ) (old : List ℕ) → has_unit groups v n ≡ false
    → old ≡ old ++ filter (has_unit groups v) (n ∷ [])
number-off groups v n old f = rw f (sym (append-nil old))

pub number-more : (groups : List Pack) (v n : ℕ) (old new : List ℕ) → old ≡ filter (has_unit groups v) (numbers_from 0 n)
    → new ≡ old ++ filter (has_unit groups v) (n ∷ []) → new ≡ filter (has_unit groups v) (numbers_from 0 (n + 1))
number-more groups v n old new o e =
    e ∙ ap (λ xs. xs ++ filter (has_unit groups v) (n ∷ [])) o
    ∙ sym (ap (filter (has_unit groups v)) (up-to n) ∙ filter-append (has_unit groups v) (numbers_from 0 n) (n ∷ []))

-- whether the group of a number that is there has a unit
pub there-has : (groups : List Pack) (v n : ℕ) (g : Pack) (b : Bool) → n < length groups → g ≡ get_or groups n g
    → b ≡ is_in v (units_of g) → has_unit groups v n ≡ b
there-has groups v n g b l e h =
    let t : nat_lt n (length groups) ≡ true = grind (arith, nat_tests, l) in
    rw t (sym (h ∙ ap (λ q. is_in v (units_of q)) (e ∙ same-got groups n l)))
  where
    same-got : (xs : List Pack) (k : ℕ) → k < length xs → get_or xs k g ≡ get_or xs k no_group
    same-got [] k l = absurd (omega (arith, l))
    same-got (x ∷ xs) zero l = refl
    same-got (x ∷ xs) (suc k) l = same-got xs k (omega (arith, l))
