-- What the search promises of the plan that it chooses.
use Rattle.std.specs.Prelude.{◌≤◌, ◌<◌, ℕ, List, [], length}
use Rattle.std.specs.List.{AllByRecursion}
use Rattle.vg_kernel_plans.specs.declared.choice.Choice.{Choice}
use Rattle.vg_kernel_plans.specs.Completed.{aligned_plain_of, careful_of}
use Rattle.vg_kernel_plans.specs.Fed.{IsPlanBy, fed_aligned, packing_by}
use Rattle.vg_kernel_plans.specs.Laws.{IsPlanFor, MatchUnits, cost_of}
use Rattle.vg_kernel_plans.specs.Packing.{packing, plain_of}
use Rattle.vg_kernel_plans.specs.Taken.{IsShort}
use Rattle.vg_plans.specs.Crowded.{Crowded}
use Rattle.vg_plans.specs.World.{follows, same_packs}
use Rattle.vg_shapes.specs.declared.match_table.Match.{Match}
use Rattle.vg_shapes.specs.declared.pack.Pack.{Pack}
use Rattle.vg_shapes.specs.declared.ssa.Ssa.{Ssa}
use Rattle.vg_shapes.specs.Description.{Description}

-- the packs of plans for a kernel have few lanes
abbrev pub HaveShortPacks : List Description → List Match → Ssa → List (ℕ × ℕ) → Type 0
HaveShortPacks ds matches ssa deps =
    (plan : List Pack) → IsPlanFor ds matches ssa deps plan → AllByRecursion IsShort plan

-- the same of plans of what is tried
abbrev pub HaveShortPacksBy : Choice → List Description → List Match → Ssa → List (ℕ × ℕ) → Type 0
HaveShortPacksBy ch ds matches ssa deps =
    (plan : List Pack) → IsPlanBy ch ds matches ssa deps plan → AllByRecursion IsShort plan

-- more than so many plans of this number of packs, no two of the same packs
abbrev pub IsCrowded : List Description → List Match → Ssa → List (ℕ × ℕ) → ℕ → ℕ → Type 0
IsCrowded ds matches ssa deps =
    Crowded (follows (packing ds matches ssa deps)) (same_packs (packing ds matches ssa deps))

-- A plan that costs at most as much as the plain and as the empty one. In a kernel of at most 256 units
-- it costs at most as much as each plan where no lesser number of packs is crowded.
pub record IsChosen
    (ds : List Description) (matches : List Match) (ssa : Ssa) (deps : List (ℕ × ℕ)) (width : ℕ)
    (chosen : List Pack)
    : Type 0 where
  pub plan : IsPlanFor ds matches ssa deps chosen
  pub below_plain :
      cost_of ds matches ssa deps chosen
      ≤ cost_of ds matches ssa deps (plain_of ds matches ssa deps)
  pub below_scalar : cost_of ds matches ssa deps chosen ≤ cost_of ds matches ssa deps []
  pub optimal :
      MatchUnits ssa matches → length ssa.units ≤ 256 →
      (plan : List Pack) → IsPlanFor ds matches ssa deps plan →
      ((size : ℕ) → size < length plan → IsCrowded ds matches ssa deps width size → ⊥) →
      cost_of ds matches ssa deps chosen ≤ cost_of ds matches ssa deps plan

-- the same of plans of aligned store groups that load groups may feed
abbrev pub IsCrowdedFed : List Description → List Match → Ssa → List (ℕ × ℕ) → ℕ → ℕ → Type 0
IsCrowdedFed ds matches ssa deps =
    Crowded (follows (packing_by fed_aligned ds matches ssa deps))
    (same_packs (packing_by fed_aligned ds matches ssa deps))

-- A plan that costs at most as much as the empty plan, the plain plan of the aligned store groups and the
-- careful plain plan. In a kernel of at most 256 units it costs at most as much as each plan of aligned store
-- groups that may be fed, where no lesser number of packs is crowded.
pub record IsChosenFed
    (ds : List Description) (matches : List Match) (ssa : Ssa) (deps : List (ℕ × ℕ)) (width : ℕ)
    (chosen : List Pack)
    : Type 0 where
  pub plan : IsPlanBy fed_aligned ds matches ssa deps chosen
  pub below_scalar : cost_of ds matches ssa deps chosen ≤ cost_of ds matches ssa deps []
  pub below_plain :
      cost_of ds matches ssa deps chosen
      ≤ cost_of ds matches ssa deps (aligned_plain_of ds matches ssa deps)
  pub below_careful :
      cost_of ds matches ssa deps chosen
      ≤ cost_of ds matches ssa deps (careful_of ds matches ssa deps)
  pub optimal :
      MatchUnits ssa matches → length ssa.units ≤ 256 →
      (plan : List Pack) → IsPlanBy fed_aligned ds matches ssa deps plan →
      ((size : ℕ) → size < length plan → IsCrowdedFed ds matches ssa deps width size → ⊥) →
      cost_of ds matches ssa deps chosen ≤ cost_of ds matches ssa deps plan
