-- Worlds in which other packs are tried: whether a plan stays one, and what it costs, are the same.
use Rattle.std.proofs.Common.{◌≡◌, ℕ, zero, suc, ◌+◌, List, [], ◌∷◌, ◌++◌, length, refl, ◌∙◌, ap, inl, inr}
use Rattle.std.specs.Prelude.{not, ◌&&◌, find, filter, sum_by, min, if◌then◌else◌, flat_map, Option, Some, None}
use Rattle.std.specs.List.{list_any}
use Rattle.std.proofs.lemmas.Bool.{cases_Bool}
use Rattle.vg_plans.specs.Members.{Has}
use Rattle.vg_plans.specs.Crowded.{IsPlan, empty, more}
use Rattle.vg_plans.specs.PlainPlan.{first_producer, is_settled, walk, with_groups}
use Rattle.vg_plans.specs.World.{World, can_shuffle, follows, has_no_cycle, inserted, is_empty, is_held_back, is_packed, least_shuffle, left_after, operands, plan_cost, recipe_cost, scalar_lines, stays_plan, tried, tried_for, trying}
use Rattle.vg_plans.proofs.Lists.{has-append_left, has-append_right, has-flat_map}
use Rattle.vg_plans.proofs.Members.{from-filter, from-flat_map, has-append, has-filter, sum-agree}

module _ {P O N : Type 0} (w : World P O N) (groups : List P) (feeders : O → List P) where
  abbrev other : World P O N
  other = trying w groups feeders

  left-other : (plan : List P) (n : ℕ) (left : List ℕ) → left_after other plan n left ≡ left_after w plan n left
  left-other plan zero left = refl
  left-other plan (suc n) left = left-other plan n (filter (is_held_back w plan left) left)

  pub cycle-other : (plan : List P) → has_no_cycle other plan ≡ has_no_cycle w plan
  cycle-other plan = ap (is_empty w) (left-other plan (length w.units) w.units)

  pub stays-other : (plan : List P) (p : P) → stays_plan other plan p ≡ stays_plan w plan p
  stays-other plan p = ap (λ b. not (list_any (is_packed w plan) (w.units_of p)) && b) (cycle-other (plan ++ p ∷ []))

  shuffle-other : (plan : List P) (cost : ℕ) (ss : List (ℕ × List N)) → least_shuffle other plan cost ss ≡ least_shuffle w plan cost ss
  shuffle-other plan cost [] = refl
  shuffle-other plan cost (s ∷ ss) = shuffle-other plan (if can_shuffle w plan s then min s.0 cost else cost) ss

  pub recipe-other : (plan : List P) (o : O) → recipe_cost other plan o ≡ recipe_cost w plan o
  recipe-other plan o =
      ap (λ c. if list_any (λ p. w.holds p o) plan then 0 else if w.is_constant o then 1 else c)
      (shuffle-other plan (1 + length (w.values_of o)) (w.shuffles o))

  lines-other : (plan : List P) (needed vs : List ℕ) → scalar_lines other plan needed vs ≡ scalar_lines w plan needed vs
  lines-other plan needed [] = refl
  lines-other plan needed (v ∷ vs) =
      rw (lines-other plan (w.uses_of v ++ needed) vs, lines-other plan needed vs) refl

  pub cost-other : (plan : List P) → plan_cost other plan ≡ plan_cost w plan
  cost-other plan =
      rw (sum-agree (recipe_cost other plan) (recipe_cost w plan) (recipe-other plan) (operands w plan))
      (ap (λ n. sum_by w.price plan + sum_by (recipe_cost w plan) (operands w plan) + n)
      (lines-other plan (flat_map (inserted w plan) (operands w plan)) w.units))

  pub groups-other : (plan gs : List P) → with_groups other plan gs ≡ with_groups w plan gs
  groups-other plan [] = refl
  groups-other plan (g ∷ gs) = rw (stays-other plan g, groups-other (plan ++ g ∷ []) gs, groups-other plan gs) refl

  find-other : (plan ps : List P) → find (stays_plan other plan) ps ≡ find (stays_plan w plan) ps
  find-other plan [] = refl
  find-other plan (p ∷ ps) = rw (stays-other plan p, find-other plan ps) refl

  pub walk-other : (turns : ℕ) (plan : List P) (queue : List O) → walk other turns plan queue ≡ walk w turns plan queue
  unfolding walk
  walk-other zero plan queue = refl
  walk-other (suc turns) plan [] = refl
  walk-other (suc turns) plan (o ∷ queue) = elim (cases_Bool (is_settled w plan o)) [
    | inl t ↦ rw t (walk-other turns plan queue)
    | inr f ↦ rw (f, find-other plan (w.producers o)) (by_found (walk-other turns plan queue) (λ p. walk-other turns (plan ++ p ∷ []) (queue ++ w.operands_of p)) (first_producer w plan o))
  ]
    where
      by_found : walk other turns plan queue ≡ walk w turns plan queue →
          ((p : P) → walk other turns (plan ++ p ∷ []) (queue ++ w.operands_of p) ≡ walk w turns (plan ++ p ∷ []) (queue ++ w.operands_of p)) →
          (found : Option P) →
          (elim found as (λ p. List P) [ None ↦ walk other turns plan queue | Some p ↦ walk other turns (plan ++ p ∷ []) (queue ++ w.operands_of p) ])
          ≡ (elim found as (λ p. List P) [ None ↦ walk w turns plan queue | Some p ↦ walk w turns (plan ++ p ∷ []) (queue ++ w.operands_of p) ])
      by_found none some None = none
      by_found none some (Some p) = some p

  -- more is tried
  module _ (more_groups : (p : P) → Has p w.groups → Has p groups) (more_feeders : (o : O) (p : P) → Has p (w.feeders o) → Has p (feeders o)) where
    for-other : (o : O) (p : P) → Has p (tried_for w o) → Has p (tried_for other o)
    for-other o p h = elim (has-append p (w.producers o) (w.feeders o) h) [
      | inl l ↦ has-append_left p (w.producers o) (feeders o) l
      | inr r ↦ has-append_right p (w.producers o) (feeders o) (more_feeders o p r)
    ]

    pub tried-other : (plan : List P) (p : P) → Has p (tried w plan) → Has p (tried other plan)
    tried-other plan p h = elim (has-append p w.groups (flat_map (λ q. flat_map (tried_for w) (w.operands_of q)) plan) h) [
      | inl l ↦ has-append_left p groups (flat_map (λ q. flat_map (tried_for other) (w.operands_of q)) plan) (more_groups p l)
      | inr r ↦
          let q = from-flat_map (λ q. flat_map (tried_for w) (w.operands_of q)) p plan r in
          let o = from-flat_map (tried_for w) p (w.operands_of q.0) q.2 in
          has-append_right p groups (flat_map (λ q. flat_map (tried_for other) (w.operands_of q)) plan)
          (has-flat_map (λ q. flat_map (tried_for other) (w.operands_of q)) q.0 p plan q.1
          (has-flat_map (tried_for other) o.0 p (w.operands_of q.0) o.1 (for-other o.0 p o.2)))
    ]

    pub plans-other : (plan : List P) → IsPlan (follows w) plan → IsPlan (follows other) plan
    plans-other _ empty = empty
    plans-other _ (more plan p m h) =
        let k = from-filter (stays_plan w plan) p (tried w plan) h in
        more plan p (plans-other plan m) (has-filter (stays_plan other plan) p (tried other plan) (tried-other plan p k.0) (stays-other plan p ∙ k.1))
