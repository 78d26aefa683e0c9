-- Plans over what a pack is: its units, what it needs, its operands.
use Rattle.std.specs.Prelude.{◌≡◌, ℕ, zero, suc, ◌+◌, Bool, true, false, not, ◌&&◌, ◌||◌, List, [], ◌∷◌, ◌++◌, length, nat_eq, min, if◌then◌else◌, flat_map, filter, sum_by}
use Rattle.std.specs.List.{list_any, list_all}
use Rattle.vg_plans.specs.Levels.{distinct}
use Rattle.vg_plans.specs.Members.{Has}

-- packs P, operands O, and places N of a register with what is wanted there
pub record World (P O N : Type 0) : Type 0 where
  pub same_pack : P → P → Bool
  pub same_operand : O → O → Bool
  pub groups : List P
  pub units_of : P → List ℕ
  -- the units on which a pack depends
  pub needs_of : P → List ℕ
  pub operands_of : P → List O
  pub producers : O → List P
  -- packs that have some of an operand's values, and need not produce it
  pub feeders : O → List P
  pub holds : P → O → Bool
  pub price : P → ℕ
  pub is_constant : O → Bool
  -- the values that inserts take
  pub values_of : O → List ℕ
  -- the shuffles that could make an operand: a cost, and for each parameter in use what its pack must hold
  pub shuffles : O → List (ℕ × List N)
  pub gives : P → N → Bool
  -- all units, by falling number; the units on which a unit depends; the values that it uses; what
  -- is emitted always
  pub units : List ℕ
  pub depends_of : ℕ → List ℕ
  pub uses_of : ℕ → List ℕ
  pub is_access : ℕ → Bool

-- the same packs and operands, of which others are tried
abbrev pub trying : {P O N : Type 0} → World P O N → List P → (O → List P) → World P O N
trying w groups feeders = record w { groups = groups; feeders = feeders }

abbrev pub is_in : ℕ → List ℕ → Bool
is_in v vs = list_any (nat_eq v) vs

module _ {P O N : Type 0} (w : World P O N) where
  abbrev pub has_pack : List P → P → Bool
  has_pack plan p = list_any (w.same_pack p) plan

  -- the plans have the same packs
  abbrev pub same_packs : List P → List P → Bool
  same_packs a b = list_all (has_pack b) a && list_all (has_pack a) b

  abbrev pub is_packed : List P → ℕ → Bool
  is_packed plan v = list_any (λ p. is_in v (w.units_of p)) plan

  -- the units on which the node of v depends
  abbrev pub needs : List P → ℕ → List ℕ
  needs plan v =
      if is_packed plan v
      then flat_map (λ p. if is_in v (w.units_of p) then w.needs_of p else []) plan
      else w.depends_of v

  -- the node of v depends on a unit that is left
  abbrev pub is_held_back : List P → List ℕ → ℕ → Bool
  is_held_back plan left v = list_any (λ x. is_in x left) (needs plan v)

  -- the units that are left after so many rounds, each leaving out the nodes that depend on none that is left
  abbrev pub left_after : List P → ℕ → List ℕ → List ℕ
  left_after plan zero left = left
  left_after plan (suc rounds) left = left_after plan rounds (filter (is_held_back plan left) left)

  abbrev pub is_empty : List ℕ → Bool
  is_empty [] = true
  is_empty (v ∷ vs) = false

  abbrev pub has_no_cycle : List P → Bool
  has_no_cycle plan = is_empty (left_after plan (length w.units) w.units)

  -- the plan stays a plan with the pack after it, where the pack is tried
  abbrev pub stays_plan : List P → P → Bool
  stays_plan plan p = not (list_any (is_packed plan) (w.units_of p)) && has_no_cycle (plan ++ p ∷ [])

  -- the packs that are tried for an operand: those that produce it, then those that feed it
  abbrev pub tried_for : O → List P
  tried_for o = w.producers o ++ w.feeders o

  -- the packs that are tried: the store groups, then those for the operands of the packs
  abbrev pub tried : List P → List P
  tried plan = w.groups ++ flat_map (λ p. flat_map tried_for (w.operands_of p)) plan

  abbrev pub follows : List P → List P
  follows plan = filter (stays_plan plan) (tried plan)

  -- each parameter in use has a pack that holds what it has to
  abbrev pub can_shuffle : List P → ℕ × List N → Bool
  can_shuffle plan s = list_all (λ n. list_any (λ p. w.gives p n) plan) s.1

  -- the least cost of the shuffles that can be had, and at most `cost`
  abbrev pub least_shuffle : List P → ℕ → List (ℕ × List N) → ℕ
  least_shuffle plan cost [] = cost
  least_shuffle plan cost (s ∷ ss) = least_shuffle plan (if can_shuffle plan s then min s.0 cost else cost) ss

  abbrev pub is_shuffled : List P → O → Bool
  is_shuffled plan o = list_any (can_shuffle plan) (w.shuffles o)

  abbrev pub is_reused : List P → O → Bool
  is_reused plan o = list_any (λ p. w.holds p o) plan

  abbrev pub recipe_cost : List P → O → ℕ
  recipe_cost plan o =
      if is_reused plan o then 0
      else if w.is_constant o then 1
      else least_shuffle plan (1 + length (w.values_of o)) (w.shuffles o)

  -- the values that the inserts of an operand take
  abbrev pub inserted : List P → O → List ℕ
  inserted plan o = if is_reused plan o || (w.is_constant o || is_shuffled plan o) then [] else w.values_of o

  abbrev pub operands : List P → List O
  operands plan = distinct w.same_operand (flat_map w.operands_of plan)

  -- what is needed as a scalar, after the units from the last down: `needed` by those above
  abbrev pub is_emitted : List P → List ℕ → ℕ → Bool
  is_emitted plan needed v = not (is_packed plan v) && (w.is_access v || is_in v needed)

  -- the cost of emitted units and extracts among the units, by falling number
  abbrev pub scalar_lines : List P → List ℕ → List ℕ → ℕ
  scalar_lines plan needed [] = 0
  scalar_lines plan needed (v ∷ vs) =
      if is_emitted plan needed v then 1 + scalar_lines plan (w.uses_of v ++ needed) vs
      else if is_packed plan v && is_in v needed then 1 + scalar_lines plan needed vs
      else scalar_lines plan needed vs

  abbrev pub plan_cost : List P → ℕ
  plan_cost plan =
      sum_by w.price plan
      + sum_by (recipe_cost plan) (operands plan)
      + scalar_lines plan (flat_map (inserted plan) (operands plan)) w.units

-- packs and operands are told apart, and each pack has a unit
pub record IsWorld {P O N : Type 0} (w : World P O N) : Type 0 where
  pub pack_itself : (p : P) → w.same_pack p p ≡ true
  pub pack_is : (p q : P) → w.same_pack p q ≡ true → p ≡ q
  pub operand_itself : (o : O) → w.same_operand o o ≡ true
  pub operand_is : (o q : O) → w.same_operand o q ≡ true → o ≡ q
  pub has_unit : (plan : List P) (p : P) → Has p (tried w plan)
      → (v : ℕ) × (is_in v (w.units_of p) ≡ true)
