-- The plain plan: all store groups that can be had, then a producer for each operand that waits.
use Rattle.std.specs.Prelude.{ℕ, zero, suc, Bool, ◌||◌, List, [], ◌∷◌, ◌++◌, if◌then◌else◌, flat_map, find, Option, Some, None}
use Rattle.vg_plans.specs.World.{World, stays_plan, is_reused}

module _ {P O N : Type 0} (w : World P O N) where
  -- the plan with each group with which it stays a plan, one after the other
  abbrev pub with_groups : List P → List P → List P
  with_groups plan [] = plan
  with_groups plan (g ∷ gs) =
      if stays_plan w plan g then with_groups (plan ++ g ∷ []) gs else with_groups plan gs

  -- the operand is there already, or needs no pack
  abbrev pub is_settled : List P → O → Bool
  is_settled plan o = is_reused w plan o || w.is_constant o

  -- the first producer with which the plan stays a plan
  abbrev pub first_producer : List P → O → Option P
  first_producer plan o = find (stays_plan w plan) (w.producers o)

  -- the operands that wait are taken first in, first out, in at most so many turns
  unfoldable pub walk : ℕ → List P → List O → List P
  walk zero plan queue = plan
  walk (suc turns) plan [] = plan
  walk (suc turns) plan (o ∷ queue) =
      if is_settled plan o then walk turns plan queue
      else elim (first_producer plan o) as (λ p. List P) [
        | None ↦ walk turns plan queue
        | Some p ↦ walk turns (plan ++ p ∷ []) (queue ++ w.operands_of p)
      ]

  abbrev pub plain_plan : ℕ → List P
  plain_plan turns = walk turns (with_groups [] w.groups) (flat_map w.operands_of (with_groups [] w.groups))
