-- What plans promise in which load groups may feed operands.
use Rattle.std.specs.Prelude.{◌≡◌, ◌≤◌, ◌<◌, ℕ, true, List, [], length}
use Rattle.vg_plans.specs.Crowded.{Crowded, GoesByPacks}
use Rattle.vg_plans.specs.Members.{Has}
use Rattle.vg_plans.specs.Levels.{kept_within}
use Rattle.vg_plans.specs.World.{follows, is_in, plan_cost, same_packs}
use Rattle.vg_shapes.specs.declared.match_table.Match.{Match}
use Rattle.vg_shapes.specs.declared.pack.Pack.{Pack}
use Rattle.vg_shapes.specs.declared.pack.Pack.TheVariants.{Loads}
use Rattle.vg_shapes.specs.declared.ssa.Ssa.{Ssa}
use Rattle.vg_shapes.specs.Description.{Description}
use Rattle.vg_shapes.specs.Pack.{IsLoadPack, units_of}
use Rattle.vg_kernel_plans.specs.declared.choice.Choice.{Choice}
use Rattle.vg_kernel_plans.specs.Completed.{aligned_plain_of, careful_of, chosen_fed_of, completed_of}
use Rattle.vg_kernel_plans.specs.Fed.{IsFedPlanFor, IsPlanBy, fed_aligned, packing_by}
use Rattle.vg_kernel_plans.specs.Laws.{IsPlanFor, MatchUnits, cost_of}
use Rattle.vg_kernel_plans.specs.LoadGroups.{load_groups}
use Rattle.vg_kernel_plans.specs.Packing.{sizes_of}

-- whatever is tried: what may follow a plan and what it costs go by its packs, no unit is in two packs,
-- and a plan has at most as many packs as there are units
pub record PlansHold
    (c : Choice) (ds : List Description) (matches : List Match) (ssa : Ssa) (deps : List (ℕ × ℕ))
    : Type 0 where
  pub by_packs :
      GoesByPacks (follows (packing_by c ds matches ssa deps)) (same_packs (packing_by c ds matches ssa deps))
      (plan_cost (packing_by c ds matches ssa deps))
  pub apart :
      (plan : List Pack) → IsPlanBy c ds matches ssa deps plan
      → (p q : Pack) (v : ℕ) → Has p plan → Has q plan
      → is_in v (units_of p) ≡ true → is_in v (units_of q) ≡ true → p ≡ q
  pub short :
      (plan : List Pack) → MatchUnits ssa matches → IsPlanBy c ds matches ssa deps plan
      → length plan ≤ length ssa.units
  -- costs are the same; and each plan is one of store groups, producers and all that feeds
  pub costs : (plan : List Pack) → plan_cost (packing_by c ds matches ssa deps) plan ≡ cost_of ds matches ssa deps plan
  pub fed : (plan : List Pack) → IsPlanBy c ds matches ssa deps plan → IsFedPlanFor ds matches ssa deps plan

abbrev pub PlansHoldByChoice : Type 0
PlansHoldByChoice =
    (c : Choice) (ds : List Description) (matches : List Match) (ssa : Ssa) (deps : List (ℕ × ℕ))
    → PlansHold c ds matches ssa deps

-- a plan of store groups and producers is one among those that may be fed
abbrev pub PlansMayBeFed : Type 0
PlansMayBeFed =
    (ds : List Description) (matches : List Match) (ssa : Ssa) (deps : List (ℕ × ℕ)) (plan : List Pack)
    → IsPlanFor ds matches ssa deps plan → IsFedPlanFor ds matches ssa deps plan

-- each load group is a load pack of at most 64 loads
abbrev pub LoadGroupsArePacks : Type 0
LoadGroupsArePacks =
    (ssa : Ssa) (register : ℕ) (p : Pack) → Has p (load_groups ssa register)
    → (us : List ℕ) × (p ≡ Loads us) × IsLoadPack ssa us × (length us ≤ 64)

-- the plain plan of aligned store groups, the careful one, the completed one of each plan, and the chosen
-- one are plans of aligned store groups that may be fed; and the chosen one costs at most as much as the
-- empty plan, the plain and the careful one, and the completed one of each that the search keeps
pub record ChosenFedFits
    (ds : List Description) (matches : List Match) (ssa : Ssa) (deps : List (ℕ × ℕ)) (width : ℕ)
    : Type 0 where
  pub plain : IsPlanBy fed_aligned ds matches ssa deps (aligned_plain_of ds matches ssa deps)
  pub careful : IsPlanBy fed_aligned ds matches ssa deps (careful_of ds matches ssa deps)
  pub completed :
      (plan : List Pack) → IsPlanBy fed_aligned ds matches ssa deps plan
      → IsPlanBy fed_aligned ds matches ssa deps (completed_of ds matches ssa deps plan)
  pub plan : IsPlanBy fed_aligned ds matches ssa deps (chosen_fed_of ds matches ssa deps width)
  pub below_scalar :
      cost_of ds matches ssa deps (chosen_fed_of ds matches ssa deps width)
      ≤ cost_of ds matches ssa deps []
  pub below_plain :
      cost_of ds matches ssa deps (chosen_fed_of ds matches ssa deps width)
      ≤ cost_of ds matches ssa deps (aligned_plain_of ds matches ssa deps)
  pub below_careful :
      cost_of ds matches ssa deps (chosen_fed_of ds matches ssa deps width)
      ≤ cost_of ds matches ssa deps (careful_of ds matches ssa deps)
  pub below_completed :
      (plan : List Pack)
      → Has plan (kept_within (follows (packing_by fed_aligned ds matches ssa deps))
      (same_packs (packing_by fed_aligned ds matches ssa deps))
      (plan_cost (packing_by fed_aligned ds matches ssa deps)) width (sizes_of ssa))
      → cost_of ds matches ssa deps (chosen_fed_of ds matches ssa deps width)
      ≤ cost_of ds matches ssa deps (completed_of ds matches ssa deps plan)

abbrev pub ChosenFedPlansFit : Type 0
ChosenFedPlansFit =
    (ds : List Description) (matches : List Match) (ssa : Ssa) (deps : List (ℕ × ℕ)) (width : ℕ)
    → ChosenFedFits ds matches ssa deps width

-- where no size below that of a plan of aligned store groups that may be fed is crowded, the plan that is
-- chosen beside completed ones costs at most as much
abbrev pub ChosenFedPlansAreOptimal : Type 0
ChosenFedPlansAreOptimal =
    (ds : List Description) (matches : List Match) (ssa : Ssa) (deps : List (ℕ × ℕ)) (width : ℕ)
    (plan : List Pack)
    → IsPlanBy fed_aligned ds matches ssa deps plan → length plan ≤ sizes_of ssa
    → ((e : ℕ) → e < length plan
    → Crowded (follows (packing_by fed_aligned ds matches ssa deps))
    (same_packs (packing_by fed_aligned ds matches ssa deps)) width e → ⊥)
    → cost_of ds matches ssa deps (chosen_fed_of ds matches ssa deps width)
    ≤ cost_of ds matches ssa deps plan
