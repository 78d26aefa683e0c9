-- The plain plan and the chosen plan are plans.
use Rattle.std.proofs.Common.{◌≡◌, ℕ, zero, suc, Bool, true, false, List, [], ◌∷◌, ◌++◌, refl, sym, subst, inl, inr}
use Rattle.std.specs.Prelude.{if◌then◌else◌, flat_map, find, Option, Some, None, nat_lt}
use Rattle.std.proofs.lemmas.Bool.{cases_Bool}
use Rattle.vg_plans.specs.Members.{Has, Every}
use Rattle.vg_plans.specs.Crowded.{IsPlan, empty, more, IsPlanOf}
use Rattle.vg_plans.specs.Levels.{first_least, met_within, chosen}
use Rattle.vg_plans.specs.World.{World, stays_plan, tried, tried_for, follows}
use Rattle.vg_plans.specs.PlainPlan.{with_groups, is_settled, first_producer, walk, plain_plan}
use Rattle.vg_plans.proofs.Lists.{has-append_left, has-append_right, has-flat_map, every-append}
use Rattle.vg_plans.proofs.Members.{has-filter, from-flat_map}
use Rattle.vg_plans.proofs.Optimal.{level-plans, candidates-plans}

module _ {P O N : Type 0} (w : World P O N) where
  -- an operand of a pack of the plan
  abbrev pub IsOpen : List P → O → Type 0
  IsOpen plan o = (p : P) × Has p plan × Has o (w.operands_of p)

  pub may-follow : (plan : List P) (p : P) → Has p (tried w plan) → stays_plan w plan p ≡ true → Has p (follows w plan)
  may-follow plan p h t = has-filter (stays_plan w plan) p (tried w plan) h t

  groups-plan : (plan gs : List P) → ((g : P) → Has g gs → Has g w.groups) → IsPlan (follows w) plan → IsPlan (follows w) (with_groups w plan gs)
  groups-plan plan [] i m = m
  groups-plan plan (g ∷ gs) i m = elim (cases_Bool (stays_plan w plan g)) [
    | inl t ↦ rw t (groups-plan (plan ++ g ∷ []) gs (λ q h. i q (inr h)) (more plan g m (may-follow plan g (has-append_left g w.groups _ (i g (inl refl))) t)))
    | inr f ↦ rw f (groups-plan plan gs (λ q h. i q (inr h)) m)
  ]

  pub open-more : (plan : List P) (p : P) (queue : List O) → Every (IsOpen plan) queue → Every (IsOpen (plan ++ p ∷ [])) queue
  open-more plan p [] a = tt
  open-more plan p (o ∷ queue) a = ((a.0.0, has-append_left a.0.0 plan (p ∷ []) a.0.1, a.0.2), open-more plan p queue a.1)

  pub open-all : (plan : List P) (os : List O) → ((o : O) → Has o os → IsOpen plan o) → Every (IsOpen plan) os
  open-all plan [] f = tt
  open-all plan (o ∷ os) f = (f o (inl refl), open-all plan os (λ q h. f q (inr h)))

  find-is : (test : P → Bool) (ps : List P) (p : P) → find test ps ≡ Some p → Has p ps × (test p ≡ true)
  find-is test [] p e = absurd (cc)
  find-is test (q ∷ ps) p e = elim (cases_Bool (test q)) [
    | inl t ↦ let k : q ≡ p = same-some q p (rw t at e) in (inl k, subst (λ z. test z ≡ true) k t)
    | inr f ↦ let k = find-is test ps p (rw f at e) in (inr k.0, k.1)
  ]
    where
      same-some : (a b : P) → Some a ≡ Some b → a ≡ b
      same-some a b e = cc

  pub walk-plan : (turns : ℕ) (plan : List P) (queue : List O) → Every (IsOpen plan) queue → IsPlan (follows w) plan → IsPlan (follows w) (walk w turns plan queue)
  unfolding walk
  walk-plan zero plan queue a m = m
  walk-plan (suc turns) plan [] a m = m
  walk-plan (suc turns) plan (o ∷ queue) a m = elim (cases_Bool (is_settled w plan o)) [
    | inl t ↦ rw t (walk-plan turns plan queue a.1 m)
    | inr f ↦ rw f (by_producer (λ q. walk-plan turns plan queue a.1 m) (λ p h t.
        walk-plan turns (plan ++ p ∷ []) (queue ++ w.operands_of p)
        (every-append (IsOpen (plan ++ p ∷ [])) queue (w.operands_of p) (open-more plan p queue a.1) (open-all (plan ++ p ∷ []) (w.operands_of p) (λ q k. (p, has-append_right p plan (p ∷ []) (inl refl), k))))
        (more plan p m (may-follow plan p (has-append_right p w.groups _ (has-flat_map (λ q. flat_map (tried_for w) (w.operands_of q)) a.0.0 p plan a.0.1 (has-flat_map (tried_for w) o p (w.operands_of a.0.0) a.0.2 (has-append_left p (w.producers o) (w.feeders o) h)))) t)))
        (first_producer w plan o) refl)
  ]
    where
      by_producer : (Unit {0} → IsPlan (follows w) (walk w turns plan queue)) →
          ((p : P) → Has p (w.producers o) → stays_plan w plan p ≡ true → IsPlan (follows w) (walk w turns (plan ++ p ∷ []) (queue ++ w.operands_of p))) →
          (found : Option P) → first_producer w plan o ≡ found →
          IsPlan (follows w) (elim found as (λ p. List P) [ None ↦ walk w turns plan queue | Some p ↦ walk w turns (plan ++ p ∷ []) (queue ++ w.operands_of p) ])
      by_producer none some None e = none tt
      by_producer none some (Some p) e = let k = find-is (stays_plan w plan) (w.producers o) p e in some p k.0 k.1

  pub plain-plan : (turns : ℕ) → IsPlan (follows w) (plain_plan w turns)
  plain-plan turns =
      let start = with_groups w [] w.groups in
      walk-plan turns start (flat_map w.operands_of start)
      (open-all start (flat_map w.operands_of start) (λ o h. let k = from-flat_map w.operands_of o start h in (k.0, k.1, k.2)))
      (groups-plan [] w.groups (λ g h. h) empty)

-- the chosen plan is one of those it is chosen from
pub least-of : {X : Type 0} (P : X → Type 0) (key : X → ℕ) (best : X) (xs : List X) → P best → Every P xs → P (first_least key best xs)
least-of P key best [] h a = h
least-of {X = X} P key best (x ∷ xs) h a = elim (cases_Bool (nat_lt (key x) (key best))) [
  | inl t ↦ subst (λ q. P (first_least key q xs)) (sym (if-true (nat_lt (key x) (key best)) x best t)) (least-of P key x xs a.0 a.1)
  | inr f ↦ subst (λ q. P (first_least key q xs)) (sym (if-false (nat_lt (key x) (key best)) x best f)) (least-of P key best xs h a.1)
]
  where
    if-true : (b : Bool) (x y : X) → b ≡ true → (if b then x else y) ≡ x
    if-true b x y t = rw t refl

    if-false : (b : Bool) (x y : X) → b ≡ false → (if b then x else y) ≡ y
    if-false b x y f = rw f refl

pub sized-plans : {P : Type 0} (follows : List P → List P) (d : ℕ) (plans : List (List P)) → Every (IsPlanOf follows d) plans → Every (IsPlan follows) plans
sized-plans follows d [] a = tt
sized-plans follows d (p ∷ plans) a = (a.0.0, sized-plans follows d plans a.1)

pub met-plans : {P : Type 0} (follows : List P → List P) (same : List P → List P → Bool) (cost : List P → ℕ) (width sizes : ℕ) → Every (IsPlan follows) (met_within follows same cost width sizes)
unfolding met_within
met-plans follows same cost width zero = tt
met-plans follows same cost width (suc d) =
    every-append (IsPlan follows) _ _ (met-plans follows same cost width d) (sized-plans follows (suc d) _ (candidates-plans follows same d _ (level-plans follows same cost width d)))

pub chosen-plan : {P : Type 0} (follows : List P → List P) (same : List P → List P → Bool) (cost : List P → ℕ) (width sizes : ℕ) (plain : List P) → IsPlan follows plain → IsPlan follows (chosen follows same cost width sizes plain)
chosen-plan follows same cost width sizes plain m = least-of (IsPlan follows) cost [] (plain ∷ met_within follows same cost width sizes) empty (m, met-plans follows same cost width sizes)
