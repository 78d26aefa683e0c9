-- The laws on plans over packs, operands and places that are named by numbers. The lemmas hold of
-- any types of them.
use Rattle.std.specs.Prelude.{◌≡◌, ℕ, ◌<◌, ◌≤◌, Bool, true, false, List, [], ◌∷◌, ◌++◌, length}
use Rattle.std.specs.List.Sorted.{IsNonDecreasingBy, IsStableByKey}
use Rattle.std.specs.Ordering.{nat_cmp}
use Rattle.vg_plans.specs.Completed.{careful_plan, chosen_fed, completed}
use Rattle.vg_plans.specs.Crowded.{Crowded, GoesByPacks, IsPlan, OptimalUnlessCrowded}
use Rattle.vg_plans.specs.Cycle.{IsAway, IsNew, Reaches}
use Rattle.vg_plans.specs.Levels.{chosen, distinct, distinct_onto, kept_within, sort_by}
use Rattle.vg_plans.specs.Members.{Has}
use Rattle.vg_plans.specs.PlainPlan.{plain_plan}
use Rattle.vg_plans.specs.Recipes.{GivesOwnValues, IsOther}
use Rattle.vg_plans.specs.World.{IsWorld, World, follows, has_no_cycle, inserted, is_in, plan_cost, recipe_cost, same_packs, tried, trying}

-- where no size below that of a plan is crowded, the chosen plan costs at most as much
abbrev pub ChosenIsOptimal : Type 0
ChosenIsOptimal =
    (follows : List ℕ → List ℕ) (same : List ℕ → List ℕ → Bool) (cost : List ℕ → ℕ)
    → OptimalUnlessCrowded follows same cost

-- what may follow a plan and what it costs go by its packs, in whatever order they stand
abbrev pub PlansGoByPacks : Type 0
PlansGoByPacks =
    (w : World ℕ ℕ ℕ) → IsWorld w → GoesByPacks (follows w) (same_packs w) (plan_cost w)

-- the chosen plan and the plain plan are plans
abbrev pub ArePlans : Type 0
ArePlans =
    (w : World ℕ ℕ ℕ) (width sizes turns : ℕ)
    → IsPlan (follows w) (plain_plan w turns)
    × IsPlan (follows w) (chosen (follows w) (same_packs w) (plan_cost w) width sizes (plain_plan w turns))

-- a plan that is completed, the careful plan and the plan that is chosen beside them are plans
pub record AreCompleted (w : World ℕ ℕ ℕ) (turns : ℕ) : Type 0 where
  pub completed :
      (plan : List ℕ) → IsPlan (follows w) plan → IsPlan (follows w) (completed w turns plan)
  pub careful : IsPlan (follows w) (careful_plan w turns)
  pub chosen : (width sizes : ℕ) → IsPlan (follows w) (chosen_fed w turns width sizes)

abbrev pub CompletedArePlans : Type 0
CompletedArePlans = (w : World ℕ ℕ ℕ) (turns : ℕ) → AreCompleted w turns

-- where no size below that of a plan is crowded, the plan that is chosen beside completed ones costs at
-- most as much; and it costs at most as much as the plain and the careful plan, and as the completed
-- plan of each that is kept
pub record IsLeast (w : World ℕ ℕ ℕ) (turns width sizes : ℕ) : Type 0 where
  pub optimal :
      IsWorld w → (plan : List ℕ) → IsPlan (follows w) plan → length plan ≤ sizes →
      ((e : ℕ) → e < length plan → Crowded (follows w) (same_packs w) width e → ⊥) →
      plan_cost w (chosen_fed w turns width sizes) ≤ plan_cost w plan
  pub below_plain : plan_cost w (chosen_fed w turns width sizes) ≤ plan_cost w (plain_plan w turns)
  pub below_careful :
      plan_cost w (chosen_fed w turns width sizes) ≤ plan_cost w (careful_plan w turns)
  pub below_completed :
      (plan : List ℕ)
      → Has plan (kept_within (follows w) (same_packs w) (plan_cost w) width sizes)
      → plan_cost w (chosen_fed w turns width sizes) ≤ plan_cost w (completed w turns plan)

abbrev pub ChosenFedIsLeast : Type 0
ChosenFedIsLeast = (w : World ℕ ℕ ℕ) (turns width sizes : ℕ) → IsLeast w turns width sizes

-- whatever is tried, a plan costs the same; and where more is tried, plans stay plans
pub record StayPlans (w : World ℕ ℕ ℕ) (groups : List ℕ) (feeders : ℕ → List ℕ) : Type 0 where
  pub costs : (plan : List ℕ) → plan_cost (trying w groups feeders) plan ≡ plan_cost w plan
  pub plans :
      ((p : ℕ) → Has p w.groups → Has p groups)
      → ((o p : ℕ) → Has p (w.feeders o) → Has p (feeders o))
      → (plan : List ℕ) → IsPlan (follows w) plan → IsPlan (follows (trying w groups feeders)) plan

abbrev pub PlansStayPlans : Type 0
PlansStayPlans =
    (w : World ℕ ℕ ℕ) (groups : List ℕ) (feeders : ℕ → List ℕ) → StayPlans w groups feeders

-- a pack from which a unit of its own is reached closes a cycle
abbrev pub WaysBackAreCycles : Type 0
WaysBackAreCycles =
    (w : World ℕ ℕ ℕ) (plan : List ℕ) (p first : ℕ)
    → Has first (w.needs_of p) → Reaches w plan p first → has_no_cycle w (plan ++ p ∷ []) ≡ false

-- a new pack from which other units alone are reached closes none
abbrev pub OthersAreNoCycles : Type 0
OthersAreNoCycles =
    (w : World ℕ ℕ ℕ) (plan : List ℕ) (p : ℕ) (reached : List ℕ)
    → IsNew w plan p → IsAway w plan p reached → has_no_cycle w plan ≡ true
    → has_no_cycle w (plan ++ p ∷ []) ≡ true

-- a unit is in one pack of a plan
abbrev pub PacksAreApart : Type 0
PacksAreApart =
    (w : World ℕ ℕ ℕ) → IsWorld w → (plan : List ℕ) → IsPlan (follows w) plan
    → (p q v : ℕ) → Has p plan → Has q plan
    → is_in v (w.units_of p) ≡ true → is_in v (w.units_of q) ≡ true → p ≡ q

-- a plan has at most as many packs as there are units
abbrev pub PlansAreShort : Type 0
PlansAreShort =
    (w : World ℕ ℕ ℕ) → IsWorld w
    → ((p v : ℕ) (plan : List ℕ) → Has p (tried w plan) → is_in v (w.units_of p) ≡ true
    → Has v w.units)
    → (plan : List ℕ) → IsPlan (follows w) plan → length plan ≤ length w.units

-- a pack that has none of an operand's values changes neither the cost of its recipe nor its inserts
pub record StaysWithout (w : World ℕ ℕ ℕ) (plan : List ℕ) (p o : ℕ) : Type 0 where
  pub cost : recipe_cost w (plan ++ p ∷ []) o ≡ recipe_cost w plan o
  pub inserts : inserted w (plan ++ p ∷ []) o ≡ inserted w plan o

abbrev pub RecipesStay : Type 0
RecipesStay =
    (w : World ℕ ℕ ℕ) → GivesOwnValues w → (plan : List ℕ) (p o : ℕ) → IsOther w p o
    → StaysWithout w plan p o

-- values left out one after the other are those left out from the front
abbrev pub LeavingOutIsOne : Type 0
LeavingOutIsOne =
    (same : ℕ → ℕ → Bool) (xs : List ℕ) → distinct_onto same [] xs ≡ distinct same xs

-- a stable sort by a key has one answer
abbrev pub StableSortsAreOne : Type 0
StableSortsAreOne =
    (key : ℕ → ℕ) (xs ys : List ℕ)
    → IsNonDecreasingBy key ys → IsStableByKey key nat_cmp xs ys → ys ≡ sort_by key xs
