-- Optimal unless crowded, by induction on the number of packs.
use Rattle.std.proofs.Common.{◌≡◌, ℕ, zero, suc, ◌<◌, ◌≤◌, Bool, true, List, [], ◌∷◌, ◌++◌, length, refl, sym, subst, inl, inr, arith, length-append}
use Rattle.std.specs.Prelude.{nat_le, nat_lt, flat_map}
use Rattle.std.proofs.lemmas.Bool.{cases_Bool}
use Rattle.std.proofs.lemmas.Bool.Decides.{nat_tests}
use Rattle.vg_plans.specs.Levels.{chosen, first_least, grown, candidates, level_of, met_after, met_within}
use Rattle.vg_plans.specs.Members.{Has, Every}
use Rattle.vg_plans.specs.Crowded.{IsPlan, empty, more, IsPlanOf, Crowded, GoesByPacks, OptimalUnlessCrowded}
use Rattle.vg_plans.proofs.Lists.{has-append_left, has-append_right, has-map, has-flat_map, every-map, every-flat_map, every-has, every-kept, every-distinct, stays, distinct-differ, least-below}

one_more : {P : Type 0} (plan : List P) (p : P) (d : ℕ) → length plan ≡ d → length (plan ++ p ∷ []) ≡ suc d
one_more plan p d e = omega (arith, length-append plan (p ∷ []))

-- what is met grows what is kept: plans of one pack more
pub candidates-plans : {P : Type 0} (follows : List P → List P) (same : List P → List P → Bool) (d : ℕ) (level : List (List P)) → Every (IsPlanOf follows d) level → Every (IsPlanOf follows (suc d)) (candidates follows same level)
candidates-plans follows same d level a =
    every-distinct (IsPlanOf follows (suc d)) same [] (flat_map (grown follows) level)
    (every-flat_map (IsPlanOf follows d) (IsPlanOf follows (suc d)) (grown follows) level
    (λ plan q. every-map (IsPlanOf follows (suc d)) (λ p. plan ++ p ∷ []) (follows plan) (λ p h. (more plan p q.0 h, one_more plan p d q.1))) a)

pub level-plans : {P : Type 0} (follows : List P → List P) (same : List P → List P → Bool) (cost : List P → ℕ) (width d : ℕ) → Every (IsPlanOf follows d) (level_of follows same cost width d)
unfolding level_of
level-plans follows same cost width zero = ((empty, refl), tt)
level-plans follows same cost width (suc d) =
    every-kept (IsPlanOf follows (suc d)) cost width _ (candidates-plans follows same d _ (level-plans follows same cost width d))

-- a plan of the same packs is in the list
abbrev Reaches : {P : Type 0} → (List P → List P → Bool) → List (List P) → List P → Type 0
Reaches {P} same plans plan = (other : List P) × Has other plans × (same plan other ≡ true)

step-reaches : {P : Type 0} (follows : List P → List P) (same : List P → List P → Bool) (cost : List P → ℕ) → GoesByPacks follows same cost →
    (d : ℕ) (level : List (List P)) (plan : List P) (p : P) → Every (IsPlanOf follows d) level → IsPlan follows plan → Has p (follows plan) →
    Reaches same level plan → Reaches same (candidates follows same level) (plan ++ p ∷ [])
step-reaches follows same cost law d level plan p a is h r =
    let b = r.0 in
    let plan_b = (every-has (IsPlanOf follows d) b level a r.1).0 in
    let q = law.follow plan b p is plan_b r.2 h in
    let met : Has (b ++ p ∷ []) (flat_map (grown follows) level) = has-flat_map (grown follows) b (b ++ p ∷ []) level r.1 (has-map (λ x. b ++ x ∷ []) p (follows b) q) in
    let k = stays same law.itself (b ++ p ∷ []) [] (flat_map (grown follows) level) met in
    (k.0, elim k.1 [ inl none ↦ absurd none | inr stay ↦ stay ], law.joined (plan ++ p ∷ []) (b ++ p ∷ []) k.0 (law.longer plan b p r.2) k.2)

-- where its size is not crowded, all that is met is kept
kept-reaches : {P : Type 0} (follows : List P → List P) (same : List P → List P → Bool) (cost : List P → ℕ) → GoesByPacks follows same cost →
    (width d : ℕ) (plan : List P) → (Crowded follows same width (suc d) → ⊥) →
    Reaches same (met_after follows same cost width d) plan → Reaches same (level_of follows same cost width (suc d)) plan
unfolding level_of
kept-reaches follows same cost law width d plan free r =
    let met = met_after follows same cost width d in
    let few : length met ≤ width = elim (cases_Bool (nat_lt width (length met))) [
      | inl t ↦ absurd (free (met, grind (arith, nat_tests, t), candidates-plans follows same d _ (level-plans follows same cost width d), distinct-differ same law.turned [] _))
      | inr f ↦ grind (arith, nat_tests, f)
    ] in
    let t : nat_le (length met) width ≡ true = grind (arith, nat_tests, few) in
    (r.0, rw t r.1, r.2)

-- every plan of d packs has its packs in a plan that is kept
level-reaches : {P : Type 0} (follows : List P → List P) (same : List P → List P → Bool) (cost : List P → ℕ) → GoesByPacks follows same cost →
    (width : ℕ) (plan : List P) → IsPlan follows plan → ((e : ℕ) → e ≤ length plan → Crowded follows same width e → ⊥) →
    Reaches same (level_of follows same cost width (length plan)) plan
unfolding level_of
level-reaches follows same cost law width _ empty free = ([], inl refl, law.itself [])
level-reaches follows same cost law width _ (more plan p is h) free =
    let long = one_more plan p (length plan) refl in
    let before = level-reaches follows same cost law width plan is (λ e le. free e (omega (arith, long))) in
    let met = step-reaches follows same cost law (length plan) _ plan p (level-plans follows same cost width (length plan)) is h before in
    subst (λ n. Reaches same (level_of follows same cost width n) (plan ++ p ∷ [])) (sym long)
    (kept-reaches follows same cost law width (length plan) (plan ++ p ∷ []) (free (suc (length plan)) (omega (arith, long))) met)

met-within : {P : Type 0} (follows : List P → List P) (same : List P → List P → Bool) (cost : List P → ℕ) (width d n : ℕ) (plan : List P) →
    d < n → Has plan (met_after follows same cost width d) → Has plan (met_within follows same cost width n)
unfolding met_within
met-within follows same cost width d zero plan lt h = absurd (omega arith)
met-within follows same cost width d (suc n) plan lt h = elim (cases_Bool (nat_lt d n)) [
  | inl t ↦ has-append_left plan (met_within follows same cost width n) (met_after follows same cost width n) (met-within follows same cost width d n plan (grind (arith, nat_tests, t)) h)
  | inr f ↦ let e : d ≡ n = grind (arith, nat_tests, f, lt) in
      has-append_right plan (met_within follows same cost width n) (met_after follows same cost width n) (subst (λ m. Has plan (met_after follows same cost width m)) e h)
]

pub first_least-best : {X : Type 0} (key : X → ℕ) (best : X) (xs : List X) → key (first_least key best xs) ≤ key best
first_least-best key best [] = omega arith
first_least-best key best (x ∷ xs) = elim (cases_Bool (nat_lt (key x) (key best))) [
  | inl t ↦ rw t (let h = first_least-best key x xs in grind (arith, nat_tests, h, t))
  | inr f ↦ rw f (first_least-best key best xs)
]

-- a plan that costs no more than all that are met and the empty plan costs no more than each plan where no lesser
-- size is crowded
pub optimal-beside : {P : Type 0} (follows : List P → List P) (same : List P → List P → Bool) (cost : List P → ℕ) → GoesByPacks follows same cost →
    (width sizes : ℕ) (least plan : List P) → cost least ≤ cost [] →
    ((met : List P) → Has met (met_within follows same cost width sizes) → cost least ≤ cost met) →
    IsPlan follows plan → length plan ≤ sizes → ((e : ℕ) → e < length plan → Crowded follows same width e → ⊥) →
    cost least ≤ cost plan
optimal-beside follows same cost law width sizes least _ none below empty le free = none
optimal-beside follows same cost law width sizes least _ none below (more plan p is h) le free =
    let long = one_more plan p (length plan) refl in
    let before = level-reaches follows same cost law width plan is (λ e l. free e (omega (arith, long))) in
    let plans = level-plans follows same cost width (length plan) in
    let met = step-reaches follows same cost law (length plan) _ plan p plans is h before in
    let other = (every-has (IsPlanOf follows (suc (length plan))) met.0 _ (candidates-plans follows same (length plan) _ plans) met.1).0 in
    let even : cost (plan ++ p ∷ []) ≡ cost met.0 = law.costs (plan ++ p ∷ []) met.0 (more plan p is h) other met.2 in
    let found = met-within follows same cost width (length plan) sizes met.0 (omega (arith, long)) met.1 in
    let less = below met.0 found in
    omega arith

pub optimal : {P : Type 0} (follows : List P → List P) (same : List P → List P → Bool) (cost : List P → ℕ) → OptimalUnlessCrowded follows same cost
optimal follows same cost law width sizes plain plan is le free =
    optimal-beside follows same cost law width sizes (chosen follows same cost width sizes plain) plan
    (first_least-best cost [] (plain ∷ met_within follows same cost width sizes))
    (λ met h. least-below cost [] met (plain ∷ met_within follows same cost width sizes) (inr h))
    is le free
