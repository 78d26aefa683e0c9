-- Where the checks hold, accesses through two pointers stay apart, whether these are noalias or not.
use Rattle.std.proofs.Common.{◌≡◌, ◌≢◌, ℕ, zero, suc, ◌+◌, ◌-◌, ◌<◌, ◌≤◌, ◌&&◌, ◌||◌, Bool, true, false, not, ℤ, pos, List, [], ◌∷◌, ◌++◌, length, nat_abs, Option, Some, None, refl, ap, subst, ◌∙◌, inl, inr, arith, Contains}
use Rattle.std.specs.Prelude.{◌+ℤ◌, ◌-ℤ◌, ◌≤ℤ◌, ◌⊎◌, int_le, slice_index}
use Rattle.std.specs.List.{list_all, filter_map, flat_map, cons_option}
use Rattle.std.proofs.lemmas.Int.{ints}
use Rattle.std.proofs.lemmas.Bool.{cases_Bool}
use Rattle.std.proofs.lemmas.List.Elements.{All-contains}
use Rattle.vg_kernel.specs.Tree.{Tree}
use Rattle.vg_kernel.specs.WellFormed.{pointers, IsWellFormed}
use Rattle.vg_kernel.specs.Layout.{Access, accesses, is_noalias, AreApart}
use Rattle.vg_guard.specs.declared.reach.Reach.{Reach}
use Rattle.vg_guard.specs.Reaching.{reach_of}
use Rattle.vg_guard.specs.Checks.{is_plain, check_between, check_of, numbers_from, checks_with, checks_of, holds, all_hold}
use Rattle.vg_guard.specs.Laws.{ChecksKeepApart}
use Rattle.vg_guard.proofs.Accesses.{IsKnown, accesses-known}
use Rattle.vg_guard.proofs.Reaches.{Covers, reaches}

-- ---- tests of all checks

both-true : (a b : Bool) → (a && b) ≡ true → (a ≡ true) × (b ≡ true)
both-true true true e = (refl, refl)
both-true true false e = absurd (cc)
both-true false b e = absurd (cc)

either-true : (a b : Bool) → (a || b) ≡ true → (a ≡ true) ⊎ (b ≡ true)
either-true true b e = inl refl
either-true false b e = inr e

first-all : {A : Type 0} (t : A → Bool) (xs ys : List A) → list_all t (xs ++ ys) ≡ true → list_all t xs ≡ true
first-all t [] ys e = refl
first-all t (x ∷ xs) ys e = let both = both-true (t x) (list_all t (xs ++ ys)) e in (λ i. both.0 i && first-all t xs ys both.1 i)

second-all : {A : Type 0} (t : A → Bool) (xs ys : List A) → list_all t (xs ++ ys) ≡ true → list_all t ys ≡ true
second-all t [] ys e = e
second-all t (x ∷ xs) ys e = second-all t xs ys (both-true (t x) (list_all t (xs ++ ys)) e).1

all-flat : {A B : Type 0} (t : B → Bool) (f : A → List B) (xs : List A) (x : A) → Contains xs x → list_all t (flat_map f xs) ≡ true → list_all t (f x) ≡ true
all-flat t f [] x (k, below, e) all = absurd (omega (arith, below))
all-flat t f (y ∷ xs) x (zero, below, e) all = subst (λ z. list_all t (f z) ≡ true) e (first-all t (f y) (flat_map f xs) all)
all-flat t f (y ∷ xs) x (suc k, below, e) all = all-flat t f xs x (k, (omega (arith, below)), e) (second-all t (f y) (flat_map f xs) all)

kept-all : {B : Type 0} (t : B → Bool) (o : Option B) (ys : List B) → list_all t (cons_option o ys) ≡ true → list_all t ys ≡ true
kept-all t None ys all = all
kept-all t (Some y) ys all = (both-true (t y) (list_all t ys) all).1

all-kept : {A B : Type 0} (t : B → Bool) (h : A → Option B) (xs : List A) (x : A) (y : B) → Contains xs x → h x ≡ Some y → list_all t (filter_map h xs) ≡ true → t y ≡ true
all-kept t h [] x y (k, below, e) is all = absurd (omega (arith, below))
all-kept t h (z ∷ xs) x y (zero, below, e) is all =
    (both-true (t y) (list_all t (filter_map h xs)) (subst (λ o. list_all t (cons_option o (filter_map h xs)) ≡ true) (ap h e ∙ is) all)).0
all-kept t h (z ∷ xs) x y (suc k, below, e) is all = all-kept t h xs x y (k, (omega (arith, below)), e) is (kept-all t (h z) (filter_map h xs) all)

pub number-listed : (first n u : ℕ) → first ≤ u → u < first + n → Contains (numbers_from first n) u
unfolding numbers_from
number-listed first zero u low high = absurd (omega (arith, low, high))
number-listed first (suc n) u low high = elim (by first u low) [
  | inl same ↦ (0, omega arith, same)
  | inr less ↦ let more = number-listed (first + 1) n u (omega (arith, less)) (omega (arith, high)) in (suc more.0, (let b = more.1 in omega (arith, b)), more.2)
]
  where
    by : (a b : ℕ) → a ≤ b → (a ≡ b) ⊎ (a < b)
    by zero zero h = inl refl
    by zero (suc b) h = inr (omega arith)
    by (suc a) zero h = absurd (omega (arith, h))
    by (suc a) (suc b) h = elim (by a b (omega (arith, h))) [ inl e ↦ inl (ap suc e) | inr l ↦ inr (omega (arith, l)) ]

-- ---- two accesses

le-true : (a b : ℤ) → int_le a b ≡ true → a ≤ℤ b
le-true a b h = grind (arith, ints)

length-is : (a b : ℤ) → a ≤ℤ b → pos (nat_abs (b -ℤ a)) ≡ b -ℤ a
length-is a b h = grind (arith, ints)

-- ranges of bytes of two pointers, each inside one that is reached
apart_numbers : (p q : ℤ) (x y low high low' high' : ℤ) (sx sy len len' : ℤ) → low ≤ℤ x → (x +ℤ sx) ≤ℤ high → low' ≤ℤ y → (y +ℤ sy) ≤ℤ high' → len ≡ high -ℤ low → len' ≡ high' -ℤ low'
    → (((p +ℤ low) +ℤ len) ≤ℤ (q +ℤ low')) ⊎ (((q +ℤ low') +ℤ len') ≤ℤ (p +ℤ low))
    → (((p +ℤ x) +ℤ sx) ≤ℤ (q +ℤ y)) ⊎ (((q +ℤ y) +ℤ sy) ≤ℤ (p +ℤ x))
apart_numbers p q x y low high low' high' sx sy len len' a b c d e f (inl h) = inl (omega (arith, ints))
apart_numbers p q x y low high low' high' sx sy len len' a b c d e f (inr h) = inr (omega (arith, ints))

below : (r : Reach) (x : Access) → Covers r x → r.low ≤ℤ r.high
below r x c = by r.low x.address.offset x.size r.high c.low c.high
  where
    by : (low o : ℤ) (s : ℕ) (high : ℤ) → low ≤ℤ o → (o +ℤ pos s) ≤ℤ high → low ≤ℤ high
    by low o s high h g = omega (arith, ints, h, g)

apart-by : (places : List ℕ) (r s : Reach) (x y : Access) → Covers r x → Covers s y → holds places (check_between x.address.pointer r y.address.pointer s) ≡ true → AreApart places x y
apart-by places r s x y cx cy h =
    let p = pos (slice_index places x.address.pointer) in
    let q = pos (slice_index places y.address.pointer) in
    apart_numbers p q x.address.offset y.address.offset r.low r.high s.low s.high (pos x.size) (pos y.size) (pos (nat_abs (r.high -ℤ r.low))) (pos (nat_abs (s.high -ℤ s.low)))
    cx.low cx.high cy.low cy.high (length-is r.low r.high (below r x cx)) (length-is s.low s.high (below s y cy))
    (elim (either-true _ _ h) [ inl a ↦ inl (le-true _ _ a) | inr b ↦ inr (le-true _ _ b) ])

apart-turned : (places : List ℕ) (x y : Access) → AreApart places x y → AreApart places y x
apart-turned places x y (inl h) = inr h
apart-turned places x y (inr h) = inl h

-- ---- the check of two pointers

one-writes : (a b c d : Bool) → (a || b) ≡ true → (a ≡ true → c ≡ true) → (b ≡ true → d ≡ true) → (c || d) ≡ true
one-writes true b c d e f g = rw (f refl) refl
one-writes false true c true e f g = either c
  where
    either : (c : Bool) → (c || true) ≡ true
    either true = refl
    either false = refl
one-writes false true c false e f g = absurd (let no : false ≡ true = g refl in cc)
one-writes false false c d e f g = absurd (cc)

check-is : (k : Tree) (p q : ℕ) (r s : Reach) → reach_of k p ≡ Some r → reach_of k q ≡ Some s → is_plain k p ≡ true → is_plain k q ≡ true → (r.writes || s.writes) ≡ true → check_of k p q ≡ Some (check_between p r q s)
check-is k p q r s rp rq pp pq w = rw (rp, rq, pp, pq, w) refl

-- accesses through two pointers that are not noalias, the first before the second
checked-apart : (k : Tree) (places : List ℕ) (x y : Access) → IsWellFormed k → all_hold places (checks_of k) ≡ true → Contains (accesses k) x → Contains (accesses k) y
    → is_plain k x.address.pointer ≡ true → is_plain k y.address.pointer ≡ true → (x.writes || y.writes) ≡ true → x.address.pointer < y.address.pointer → AreApart places x y
unfolding checks_of
checked-apart k places x y is hold cx cy px py writes less =
    let n = length (pointers k.params) in
    let p = x.address.pointer in
    let q = y.address.pointer in
    let known = All-contains (IsKnown n) (accesses k) y (accesses-known k is) cy in
    let top : q < n = known.address.pointer in
    let r = reaches p None (accesses k) x cx refl in
    let s = reaches q None (accesses k) y cy refl in
    let c = check-is k p q r.0 s.0 r.1 s.1 px py (one-writes x.writes y.writes r.0.writes s.0.writes writes r.2.writes s.2.writes) in
    let row = all-flat (holds places) (checks_with k n) (numbers_from 0 n) p (number-listed 0 n p (omega arith) (omega (arith, less, top))) hold in
    let one = all-kept (holds places) (check_of k p) (numbers_from (p + 1) (n - (p + 1))) q (check_between p r.0 q s.0) (number-listed (p + 1) (n - (p + 1)) q (omega (arith, less)) (omega (arith, less, top))) c row in
    apart-by places r.0 s.0 x y r.2 s.2 one

different : (a b : ℕ) → a ≢ b → (a < b) ⊎ (b < a)
different zero zero h = absurd (h refl)
different zero (suc b) h = inl (omega arith)
different (suc a) zero h = inr (omega arith)
different (suc a) (suc b) h = elim (different a b (λ e. h (ap suc e))) [ inl l ↦ inl (omega (arith, l)) | inr l ↦ inr (omega (arith, l)) ]

turned-or : (a b : Bool) → (a || b) ≡ true → (b || a) ≡ true
turned-or true true e = refl
turned-or true false e = refl
turned-or false true e = refl
turned-or false false e = e

plain-is : (b : Bool) → b ≡ false → not b ≡ true
plain-is true e = absurd (cc)
plain-is false e = refl

neither : (a b : Bool) → (a || b) ≡ false → (a ≡ false) × (b ≡ false)
neither true b e = absurd (cc)
neither false b e = (refl, e)

pub checks-keep-apart : ChecksKeepApart
checks-keep-apart k places is respects hold x y cx cy bound = elim (cases_Bool (is_noalias k x || is_noalias k y)) [
  | inl own ↦ respects x y cx cy (bound.0, own, bound.2)
  | inr none ↦
      let both = neither (is_noalias k x) (is_noalias k y) none in
      let px = plain-is (is_noalias k x) both.0 in
      let py = plain-is (is_noalias k y) both.1 in
      elim (different x.address.pointer y.address.pointer bound.0) [
        | inl less ↦ checked-apart k places x y is hold cx cy px py bound.2 less
        | inr more ↦ apart-turned places y x (checked-apart k places y x is hold cy cx py px (turned-or x.writes y.writes bound.2) more)
      ]
]
