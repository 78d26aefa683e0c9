-- The test of a layout tells whether it respects noalias.
use Rattle.std.proofs.Common.{◌≡◌, ◌≢◌, ℕ, zero, suc, ◌<◌, ℤ, pos, Bool, true, false, List, [], ◌∷◌, length, Option, Some, None, refl, sym, ap, subst, ◌∙◌, ◌⊎◌, inl, inr, arith, get_or}
use Rattle.std.specs.Prelude.{Contains, int_lt, nat_eq, not, ◌&&◌, ◌||◌, ◌↔◌, ◌+ℤ◌, ◌≤ℤ◌, IsTrue}
use Rattle.std.specs.List.{cons_option, filter_map, list_all}
use Rattle.std.specs.Option.{option_map_or}
use Rattle.std.proofs.lemmas.Int.{ints}
use Rattle.std.proofs.lemmas.Bool.{cases_Bool, eqb-false, ne_eqb}
use Rattle.vg_base.specs.Address.{place_of}
use Rattle.vg_shapes.specs.declared.access.Access.{Access}
use Rattle.vg_shapes.specs.declared.ssa.Ssa.{Ssa}
use Rattle.vg_shapes.specs.declared.ssa_unit.SsaUnit.{SsaUnit}
use Rattle.vg_shapes.specs.Layout.{access_of, accesses, AreApart, is_noalias, noalias_flags, Respects}
use Rattle.vg_deps.specs.Layouts.{are_apart, are_respected, is_respected_by, keeps_apart, keeps_apart_from}
use Rattle.vg_deps.proofs.Apart.{turned}

-- ---- tests of all members

both-true : (a b : Bool) → (a && b) ≡ true → (a ≡ true) × (b ≡ true)
both-true true true e = (refl, refl)
both-true true false e = absurd (cc)
both-true false b e = absurd (cc)

member-passes : {A : Type 0} (p : A → Bool) (xs : List A) (x : A) (k : ℕ) → k < length xs → get_or xs k x ≡ x → list_all p xs ≡ true → p x ≡ true
member-passes p [] x k below e all = absurd (omega arith)
member-passes p (y ∷ ys) x zero below e all = subst (λ z. p z ≡ true) e (both-true (p y) (list_all p ys) all).0
member-passes p (y ∷ ys) x (suc k) below e all = member-passes p ys x k (omega arith) e (both-true (p y) (list_all p ys) all).1

all-member : {A : Type 0} (p : A → Bool) (xs : List A) (x : A) → list_all p xs ≡ true → Contains xs x → p x ≡ true
all-member p xs x all has = member-passes p xs x has.0 has.1 has.2 all

all-pass : {A : Type 0} (p : A → Bool) (xs : List A) → ((x : A) → Contains xs x → p x ≡ true) → list_all p xs ≡ true
all-pass p [] h = refl
all-pass p (y ∷ ys) h =
    (λ i. h y (0, (let some : 0 < suc (length ys) = omega arith in some), refl) i && list_all p ys)
    ∙ all-pass p ys (λ x has. h x (suc has.0, (let below = has.1 in let more : suc has.0 < suc (length ys) = omega arith in more), has.2))

-- tests of the accesses of units
one-access : (p : Access → Bool) (o : Option Access) (rest : Bool) (xs : List Access) → rest ≡ list_all p xs → (option_map_or p o true && rest) ≡ list_all p (cons_option o xs)
one-access p None rest xs e = e
one-access p (Some x) rest xs e = ap (λ b. p x && b) e

all-accesses : (p : Access → Bool) (us : List SsaUnit) → list_all (λ u. option_map_or p (access_of u) true) us ≡ list_all p (filter_map access_of us)
all-accesses p [] = refl
all-accesses p (u ∷ us) = one-access p (access_of u) _ (filter_map access_of us) (all-accesses p us)

-- ---- two accesses

not-before : (a b : ℤ) → not (int_lt b a) ≡ true → a ≤ℤ b
not-before a b h = grind (arith, ints)

is-not_before : (a b : ℤ) → a ≤ℤ b → not (int_lt b a) ≡ true
is-not_before a b h = grind (arith, ints)

either-true : (a b : Bool) → (a || b) ≡ true → (a ≡ true) ⊎ (b ≡ true)
either-true true b e = inl refl
either-true false b e = inr e

first-true : (a b : Bool) → a ≡ true → (a || b) ≡ true
first-true true b e = refl
first-true false b e = absurd (cc)

second-true : (a b : Bool) → b ≡ true → (a || b) ≡ true
second-true true b e = refl
second-true false b e = e

-- an implication as a test
holds-then : (a b : Bool) → (not a || b) ≡ true → a ≡ true → b ≡ true
holds-then true b e h = e
holds-then false b e h = absurd (cc)

then-holds : (a b : Bool) → (a ≡ true → b ≡ true) → (not a || b) ≡ true
then-holds true b h = h refl
then-holds false b h = refl

apart-from_test : (places : List ℕ) (x y : Access) → are_apart places x y ≡ true → AreApart places x y
apart-from_test places x y h = elim (either-true _ _ h) [
  | inl e ↦ inl (not-before (place_of places x.address +ℤ pos x.size) (place_of places y.address) e)
  | inr e ↦ inr (not-before (place_of places y.address +ℤ pos y.size) (place_of places x.address) e)
]

test-from_apart : (places : List ℕ) (x y : Access) → AreApart places x y → are_apart places x y ≡ true
test-from_apart places x y (inl h) = first-true _ _ (is-not_before (place_of places x.address +ℤ pos x.size) (place_of places y.address) h)
test-from_apart places x y (inr h) = second-true _ _ (is-not_before (place_of places y.address +ℤ pos y.size) (place_of places x.address) h)

-- ---- all accesses

respected-at : (flags : List Bool) (places : List ℕ) (us : List SsaUnit) → are_respected flags places us ≡ list_all (is_respected_by flags places us) (filter_map access_of us)
respected-at flags places us = all-accesses (is_respected_by flags places us) us

-- through a noalias pointer
kept-apart : (flags : List Bool) (places : List ℕ) (us : List SsaUnit) (x y : Access) → are_respected flags places us ≡ true → Contains (filter_map access_of us) x → Contains (filter_map access_of us) y → is_noalias flags x ≡ true → (x.address.pointer ≢ y.address.pointer) → (x.writes || y.writes) ≡ true → AreApart places x y
kept-apart flags places us x y h cx cy noalias other writes =
    let at : is_respected_by flags places us x ≡ true = all-member (is_respected_by flags places us) (filter_map access_of us) x (sym (respected-at flags places us) ∙ h) cx in
    let from : keeps_apart_from places x us ≡ true = holds-then (is_noalias flags x) (keeps_apart_from places x us) at noalias in
    let two : keeps_apart places x y ≡ true = all-member (keeps_apart places x) (filter_map access_of us) y (sym (all-accesses (keeps_apart places x) us) ∙ from) cy in
    let apart : (not (x.writes || y.writes) || are_apart places x y) ≡ true = ap (λ b. b || (not (x.writes || y.writes) || are_apart places x y)) (sym (ne_eqb x.address.pointer y.address.pointer other)) ∙ two in
    apart-from_test places x y (holds-then (x.writes || y.writes) (are_apart places x y) apart writes)

either-turned : (a b : Bool) → (a || b) ≡ true → (b || a) ≡ true
either-turned true true e = refl
either-turned true false e = refl
either-turned false true e = refl
either-turned false false e = absurd (cc)

tested-respects : (ssa : Ssa) (places : List ℕ) → are_respected (noalias_flags ssa) places ssa.units ≡ true → Respects ssa places
tested-respects ssa places h x y cx cy bound =
    let flags = noalias_flags ssa in
    elim (either-true (is_noalias flags x) (is_noalias flags y) bound.1) [
      | inl first ↦ kept-apart flags places ssa.units x y h cx cy first bound.0 bound.2
      | inr second ↦ turned places x y (kept-apart flags places ssa.units y x h cy cx second (λ e. bound.0 (sym e)) (either-turned x.writes y.writes bound.2))
    ]

respects-tested : (ssa : Ssa) (places : List ℕ) → Respects ssa places → are_respected (noalias_flags ssa) places ssa.units ≡ true
respects-tested ssa places respects =
    let flags = noalias_flags ssa in
    respected-at flags places ssa.units ∙ all-pass (is_respected_by flags places ssa.units) (accesses ssa) (λ x cx.
    then-holds (is_noalias flags x) (keeps_apart_from places x ssa.units) (λ noalias.
    all-accesses (keeps_apart places x) ssa.units ∙ all-pass (keeps_apart places x) (accesses ssa) (λ y cy.
    elim (cases_Bool (nat_eq x.address.pointer y.address.pointer)) [
      | inl same ↦ first-true _ _ same
      | inr other ↦ second-true _ _ (then-holds (x.writes || y.writes) (are_apart places x y) (λ writes.
          test-from_apart places x y (respects x y cx cy (eqb-false _ _ other, first-true _ _ noalias, writes))))
    ])))

pub respects-test : (ssa : Ssa) (places : List ℕ) → IsTrue (are_respected (noalias_flags ssa) places ssa.units) ↔ Respects ssa places
respects-test ssa places = (tested-respects ssa places, respects-tested ssa places)
