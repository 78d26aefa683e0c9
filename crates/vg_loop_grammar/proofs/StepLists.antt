-- Steps that are put one after the other into a list which has one for each pointer.
use Rattle.std.proofs.Common.{◌≡◌, ℕ, zero, suc, ◌<◌, ◌≤◌, true, false, List, [], ◌∷◌, length, map, refl, sym, ap, subst, ◌∙◌, inl, inr, arith}
use Rattle.std.specs.Prelude.{slice_set, slice_index, nat_eq, if◌then◌else◌}
use Rattle.std.specs.List.{AllByRecursion, IsDistinct}
use Rattle.std.proofs.lemmas.Bool.{cases_Bool, eqb-true, eqb-false, eq-eqb, ne_eqb}
use Rattle.vg_loops.proofs.Found.{set-long}
use Rattle.vg_loop_grammar.specs.Grammar.{WrittenStep, bytes_written}

-- ---- one step

set-here : (xs : List ℕ) (k s : ℕ) → k < length xs → slice_index (slice_set xs k s) k ≡ s
set-here [] k s h = absurd (omega arith)
set-here (x ∷ xs) zero s h = refl
set-here (x ∷ xs) (suc k) s h = set-here xs k s (omega arith)

set-other : (xs : List ℕ) (j k s : ℕ) → (j ≡ k → ⊥) → slice_index (slice_set xs j s) k ≡ slice_index xs k
set-other [] j k s apart = refl
set-other (x ∷ xs) zero zero s apart = absurd (apart refl)
set-other (x ∷ xs) zero (suc k) s apart = refl
set-other (x ∷ xs) (suc j) zero s apart = refl
set-other (x ∷ xs) (suc j) (suc k) s apart = set-other xs j k s (λ same. apart (ap suc same))

set-beside : (xs : List ℕ) (j k s : ℕ) → nat_eq j k ≡ false → slice_index (slice_set xs j s) k ≡ slice_index xs k
set-beside xs j k s e = set-other xs j k s (eqb-false j k e)

-- no step in the beginning
abbrev pub none : {X : Type 0} → List X → List ℕ
none ps = map (λ p. 0) ps

pub none-long : {X : Type 0} (ps : List X) → length (none ps) ≡ length ps
none-long [] = refl
none-long (p ∷ ps) = ap suc (none-long ps)

pub none-index : {X : Type 0} (ps : List X) (k : ℕ) → slice_index (none ps) k ≡ 0
none-index [] k = refl
none-index (p ∷ ps) zero = refl
none-index (p ∷ ps) (suc k) = none-index ps k

-- ---- steps one after the other

abbrev pub put : List ℕ → List WrittenStep → List ℕ
put before [] = before
put before (s ∷ ss) = put (slice_set before s.pointer s.bytes) ss

-- each of them is the first of its pointer
abbrev pub AllFresh : List ℕ → List WrittenStep → Type 0
AllFresh before [] = Unit {0}
AllFresh before (s ∷ ss) = (slice_index before s.pointer ≡ 0) × AllFresh (slice_set before s.pointer s.bytes) ss

-- each moves one of so many pointers on
abbrev pub AllKnown : ℕ → List WrittenStep → Type 0
AllKnown n ss = AllByRecursion (λ s. (s.pointer < n) × (1 ≤ s.bytes)) ss

abbrev pub AreApart : List WrittenStep → Type 0
AreApart ss = IsDistinct nat_eq (map (λ s. s.pointer) ss)

-- none of them is of this pointer
abbrev OfOthers : ℕ → List WrittenStep → Type 0
OfOthers k ss = AllByRecursion (λ y. nat_eq k y ≡ false) (map (λ s. s.pointer) ss)

pub put-long : (ss : List WrittenStep) (before : List ℕ) → length (put before ss) ≡ length before
put-long [] before = refl
put-long (s ∷ ss) before = put-long ss (slice_set before s.pointer s.bytes) ∙ set-long before s.pointer s.bytes

-- what is written for a pointer, or else a number
abbrev over : ℕ → List WrittenStep → ℕ → ℕ
over d [] k = d
over d (s ∷ ss) k = if nat_eq s.pointer k then s.bytes else over d ss k

over-written : (ss : List WrittenStep) (k : ℕ) → over 0 ss k ≡ bytes_written ss k
unfolding bytes_written
over-written [] k = refl
over-written (s ∷ ss) k = ap (λ (n : ℕ). if nat_eq s.pointer k then s.bytes else n) (over-written ss k)

over-others : (d k : ℕ) (ss : List WrittenStep) → OfOthers k ss → over d ss k ≡ d
over-others d k [] o = refl
over-others d k (s ∷ ss) o =
    let apart : nat_eq s.pointer k ≡ false = turned k s.pointer o.0 in
    rw apart (over-others d k ss o.1)
  where
    turned : (a b : ℕ) → nat_eq a b ≡ false → nat_eq b a ≡ false
    turned a b e = ne_eqb b a (λ same. let no : true ≡ false = sym (eq-eqb a b (sym same)) ∙ e in cc)

put-index : (ss : List WrittenStep) (before : List ℕ) (n k : ℕ) → length before ≡ n → AllKnown n ss → AreApart ss → slice_index (put before ss) k ≡ over (slice_index before k) ss k
unfolding IsDistinct
put-index [] before n k long known apart = refl
put-index (s ∷ ss) before n k long known apart =
    let next = slice_set before s.pointer s.bytes in
    let more = put-index ss next n k (set-long before s.pointer s.bytes ∙ long) known.1 apart.1 in
    elim (cases_Bool (nat_eq s.pointer k)) [
      | inl e ↦
          let same : s.pointer ≡ k = eqb-true s.pointer k e in
          let here : slice_index next k ≡ s.bytes = subst (λ (j : ℕ). slice_index next j ≡ s.bytes) same (set-here before s.pointer s.bytes (let less = known.0.0 in omega (arith, less, long))) in
          let others : OfOthers k ss = subst (λ (j : ℕ). OfOthers j ss) same apart.0 in
          more ∙ ap (λ (d : ℕ). over d ss k) here ∙ over-others s.bytes k ss others ∙ rw e refl
      | inr e ↦ more ∙ ap (λ (d : ℕ). over d ss k) (set-beside before s.pointer k s.bytes e) ∙ rw e refl
    ]

-- steps put into none are what is written for each pointer
pub put-written : {X : Type 0} (ps : List X) (ss : List WrittenStep) (k : ℕ) → AllKnown (length ps) ss → AreApart ss → slice_index (put (none ps) ss) k ≡ bytes_written ss k
put-written ps ss k known apart =
    put-index ss (none ps) (length ps) k (none-long ps) known apart ∙ ap (λ (d : ℕ). over d ss k) (none-index ps k) ∙ over-written ss k

-- ---- the first of each pointer, and different pointers

-- where a pointer has a step, those that are fresh are of others
taken-others : (ss : List WrittenStep) (before : List ℕ) (k : ℕ) → 1 ≤ slice_index before k → AllFresh before ss → OfOthers k ss
taken-others [] before k h fresh = tt
taken-others (s ∷ ss) before k h fresh =
    let apart : nat_eq k s.pointer ≡ false = ne_eqb k s.pointer (λ same. let here : slice_index before k ≡ 0 = ap (slice_index before) same ∙ fresh.0 in omega (arith, h, here)) in
    let apart' : nat_eq s.pointer k ≡ false = ne_eqb s.pointer k (λ same. let here : slice_index before k ≡ 0 = ap (slice_index before) (sym same) ∙ fresh.0 in omega (arith, h, here)) in
    let stays = set-beside before s.pointer k s.bytes apart' in
    (apart, taken-others ss (slice_set before s.pointer s.bytes) k (omega (arith, h, stays)) fresh.1)

pub fresh-apart : (ss : List WrittenStep) (before : List ℕ) (n : ℕ) → length before ≡ n → AllKnown n ss → AllFresh before ss → AreApart ss
unfolding IsDistinct
fresh-apart [] before n long known fresh = tt
fresh-apart (s ∷ ss) before n long known fresh =
    let next = slice_set before s.pointer s.bytes in
    let less = known.0.0 in
    let some = known.0.1 in
    let here = set-here before s.pointer s.bytes (omega (arith, less, long)) in (
      taken-others ss next s.pointer (omega (arith, some, here)) fresh.1,
      fresh-apart ss next n (set-long before s.pointer s.bytes ∙ long) known.1 fresh.1,
    )

-- no step is known for any of these
abbrev AllUnset : List ℕ → List WrittenStep → Type 0
AllUnset before ss = AllByRecursion (λ s. slice_index before s.pointer ≡ 0) ss

none-unset : {X : Type 0} (ps : List X) (ss : List WrittenStep) → AllUnset (none ps) ss
none-unset ps [] = tt
none-unset ps (s ∷ ss) = (none-index ps s.pointer, none-unset ps ss)

unset-still : (ss : List WrittenStep) (before : List ℕ) (k b : ℕ) → OfOthers k ss → AllUnset before ss → AllUnset (slice_set before k b) ss
unset-still [] before k b o unset = tt
unset-still (s ∷ ss) before k b o unset = (set-beside before k s.pointer b o.0 ∙ unset.0, unset-still ss before k b o.1 unset.1)

apart-fresh : (ss : List WrittenStep) (before : List ℕ) → AreApart ss → AllUnset before ss → AllFresh before ss
unfolding IsDistinct
apart-fresh [] before apart unset = tt
apart-fresh (s ∷ ss) before apart unset =
    (unset.0, apart-fresh ss (slice_set before s.pointer s.bytes) apart.1 (unset-still ss before s.pointer s.bytes apart.0 unset.1))

pub apart-none : {X : Type 0} (ps : List X) (ss : List WrittenStep) → AreApart ss → AllFresh (none ps) ss
apart-none ps ss apart = apart-fresh ss (none ps) apart (none-unset ps ss)

-- ---- there are at most as many as pointers

abbrev unset-count : List ℕ → ℕ
unset-count [] = 0
unset-count (zero ∷ xs) = suc (unset-count xs)
unset-count (suc n ∷ xs) = unset-count xs

none-count : {X : Type 0} (ps : List X) → unset-count (none ps) ≡ length ps
none-count [] = refl
none-count (p ∷ ps) = ap suc (none-count ps)

set-count : (xs : List ℕ) (k b : ℕ) → k < length xs → slice_index xs k ≡ 0 → 1 ≤ b → suc (unset-count (slice_set xs k b)) ≡ unset-count xs
set-count [] k b h e some = absurd (omega arith)
set-count (x ∷ xs) k zero h e some = absurd (omega arith)
set-count (zero ∷ xs) zero (suc b) h e some = refl
set-count (suc n ∷ xs) zero (suc b) h e some = absurd (omega (arith, e))
set-count (zero ∷ xs) (suc k) (suc b) h e some = ap suc (set-count xs k (suc b) (omega arith) e some)
set-count (suc n ∷ xs) (suc k) (suc b) h e some = set-count xs k (suc b) (omega arith) e some

fresh-few : (ss : List WrittenStep) (before : List ℕ) (n : ℕ) → length before ≡ n → AllKnown n ss → AllFresh before ss → length ss ≤ unset-count before
fresh-few [] before n long known fresh = omega arith
fresh-few (s ∷ ss) before n long known fresh =
    let next = slice_set before s.pointer s.bytes in
    let less = known.0.0 in
    let one = set-count before s.pointer s.bytes (omega (arith, less, long)) fresh.0 known.0.1 in
    let more = fresh-few ss next n (set-long before s.pointer s.bytes ∙ long) known.1 fresh.1 in
    omega (arith, one, more)

pub apart-few : {X : Type 0} (ps : List X) (ss : List WrittenStep) → AllKnown (length ps) ss → AreApart ss → length ss ≤ length ps
apart-few ps ss known apart =
    let few = fresh-few ss (none ps) (length ps) (none-long ps) known (apart-none ps ss apart) in
    let count = none-count ps in
    omega (arith, few, count)

-- ---- lists with the same number at each place

pub lists-same : (xs ys : List ℕ) → length xs ≡ length ys → ((k : ℕ) → slice_index xs k ≡ slice_index ys k) → xs ≡ ys
lists-same [] [] long each = refl
lists-same [] (y ∷ ys) long each = absurd (omega (arith, long))
lists-same (x ∷ xs) [] long each = absurd (omega (arith, long))
lists-same (x ∷ xs) (y ∷ ys) long each =
    let more : xs ≡ ys = lists-same xs ys (omega (arith, long)) (λ k. each (suc k)) in
    let first : x ≡ y = each 0 in
    rw (first, more) refl
