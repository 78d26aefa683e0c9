-- Plans that are completed: what their packs take is produced, else fed. The careful plan, which takes
-- a store group only where the completed plan costs less, and the plan that is chosen beside them.
use Rattle.std.specs.Prelude.{ℕ, List, [], ◌∷◌, ◌++◌, map, if◌then◌else◌, flat_map}
use Rattle.vg_plans.specs.Levels.{first_least, kept_within, met_within}
use Rattle.vg_plans.specs.PlainPlan.{is_settled, plain_plan, walk, with_groups}
use Rattle.vg_plans.specs.World.{World, follows, plan_cost, same_packs, stays_plan}

module _ {P O N : Type 0} (w : World P O N) where
  -- the plan with each pack that feeds an operand and with which it stays a plan, unless the operand is
  -- there already or needs no pack
  abbrev pub fed_for : List P → O → List P
  fed_for plan o = if is_settled w plan o then plan else with_groups w plan (w.feeders o)

  -- the same for one operand after the other
  abbrev pub fed_for_all : List P → List O → List P
  fed_for_all plan [] = plan
  fed_for_all plan (o ∷ os) = fed_for_all (fed_for plan o) os

  -- all operands of its packs are fed
  abbrev pub fed : List P → List P
  fed plan = fed_for_all plan (flat_map w.operands_of plan)

  -- the plan with a producer for each operand that waits: at first the operands of its packs
  abbrev pub produced : ℕ → List P → List P
  produced turns plan = walk w turns plan (flat_map w.operands_of plan)

  -- what its packs take is produced, in at most so many turns, and what then is not there is fed
  abbrev pub completed : ℕ → List P → List P
  completed turns plan = fed (produced turns plan)

  -- the second plan where it costs less
  abbrev pub lesser : List P → List P → List P
  lesser a b = first_least (plan_cost w) a (b ∷ [])

  -- the completed plan with the group in place of the best one so far, where it stays a plan and costs less
  abbrev pub careful_with : ℕ → List P → P → List P
  careful_with turns best g =
      if stays_plan w best g then lesser best (completed turns (best ++ g ∷ [])) else best

  -- the same for one group after the other
  abbrev pub careful_with_all : ℕ → List P → List P → List P
  careful_with_all turns best [] = best
  careful_with_all turns best (g ∷ gs) = careful_with_all turns (careful_with turns best g) gs

  abbrev pub careful_plan : ℕ → List P
  careful_plan turns = careful_with_all turns [] w.groups

  -- the plans of the search: all that are met up to so many packs, then each that is kept, completed
  abbrev pub searched : ℕ → ℕ → ℕ → List (List P)
  searched turns width sizes =
      met_within (follows w) (same_packs w) (plan_cost w) width sizes
      ++ map (completed turns) (kept_within (follows w) (same_packs w) (plan_cost w) width sizes)

  -- the first of least cost: the empty plan, the plain plan, the careful plan, and those of the search
  abbrev pub chosen_fed : ℕ → ℕ → ℕ → List P
  chosen_fed turns width sizes =
      first_least (plan_cost w) [] (plain_plan w turns ∷ careful_plan turns ∷ searched turns width sizes)
