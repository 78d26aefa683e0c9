-- What plans of kernels promise.
use Rattle.std.specs.Prelude.{◌≡◌, ◌≤◌, ◌<◌, ℕ, true, List, [], length}
use Rattle.std.specs.List.{AllByRecursion}
use Rattle.vg_plans.specs.Crowded.{Crowded, GoesByPacks, IsPlan}
use Rattle.vg_plans.specs.Members.{Has}
use Rattle.vg_plans.specs.World.{follows, is_in, plan_cost, same_packs}
use Rattle.vg_shapes.specs.declared.match_table.Match.{Match}
use Rattle.vg_shapes.specs.declared.pack.Pack.{Pack}
use Rattle.vg_shapes.specs.declared.ssa.Ssa.{Ssa}
use Rattle.vg_shapes.specs.Description.{Description}
use Rattle.vg_shapes.specs.Pack.{units_of}
use Rattle.vg_shapes.specs.Units.{is_unit}
use Rattle.vg_kernel_plans.specs.Packing.{chosen_of, packing, plain_of, sizes_of}

-- a plan of a kernel, grown from the empty one by packs with which it stays a plan
abbrev pub IsPlanFor : List Description → List Match → Ssa → List (ℕ × ℕ) → List Pack → Type 0
IsPlanFor ds matches ssa deps plan = IsPlan (follows (packing ds matches ssa deps)) plan

abbrev pub cost_of : List Description → List Match → Ssa → List (ℕ × ℕ) → List Pack → ℕ
cost_of ds matches ssa deps plan = plan_cost (packing ds matches ssa deps) plan

-- the matches are those of units
abbrev pub MatchUnits : Ssa → List Match → Type 0
MatchUnits ssa matches = AllByRecursion (λ m. is_unit ssa m.value ≡ true) matches

-- what may follow a plan and what it costs go by its packs, in whatever order they stand
abbrev pub KernelPlansGoByPacks : Type 0
KernelPlansGoByPacks =
    (ds : List Description) (matches : List Match) (ssa : Ssa) (deps : List (ℕ × ℕ)) →
    GoesByPacks
    (follows (packing ds matches ssa deps))
    (same_packs (packing ds matches ssa deps))
    (plan_cost (packing ds matches ssa deps))

-- the plain and the chosen plan are plans, and the chosen one costs at most as much as the plain and
-- as the empty one
pub record ChosenFits
    (ds : List Description) (matches : List Match) (ssa : Ssa) (deps : List (ℕ × ℕ)) (width : ℕ)
    : Type 0 where
  pub plain : IsPlanFor ds matches ssa deps (plain_of ds matches ssa deps)
  pub plan : IsPlanFor ds matches ssa deps (chosen_of ds matches ssa deps width)
  pub below_plain :
      cost_of ds matches ssa deps (chosen_of ds matches ssa deps width)
      ≤ cost_of ds matches ssa deps (plain_of ds matches ssa deps)
  pub below_scalar :
      cost_of ds matches ssa deps (chosen_of ds matches ssa deps width)
      ≤ cost_of ds matches ssa deps []

abbrev pub ChosenPlansFit : Type 0
ChosenPlansFit =
    (ds : List Description) (matches : List Match) (ssa : Ssa) (deps : List (ℕ × ℕ)) (width : ℕ) →
    ChosenFits ds matches ssa deps width

-- where no size below that of a plan is crowded, the chosen plan costs at most as much
abbrev pub ChosenPlansAreOptimal : Type 0
ChosenPlansAreOptimal =
    (ds : List Description) (matches : List Match) (ssa : Ssa) (deps : List (ℕ × ℕ)) (width : ℕ)
    (plan : List Pack) →
    IsPlanFor ds matches ssa deps plan → length plan ≤ sizes_of ssa →
    ((e : ℕ) → e < length plan →
    Crowded (follows (packing ds matches ssa deps)) (same_packs (packing ds matches ssa deps)) width e → ⊥) →
    cost_of ds matches ssa deps (chosen_of ds matches ssa deps width)
    ≤ cost_of ds matches ssa deps plan

-- no unit is in two packs of a plan
abbrev pub KernelPacksAreApart : Type 0
KernelPacksAreApart =
    (ds : List Description) (matches : List Match) (ssa : Ssa) (deps : List (ℕ × ℕ))
    (plan : List Pack) → IsPlanFor ds matches ssa deps plan →
    (p q : Pack) (v : ℕ) → Has p plan → Has q plan →
    is_in v (units_of p) ≡ true → is_in v (units_of q) ≡ true → p ≡ q

-- a plan has at most as many packs as there are units
abbrev pub KernelPlansAreShort : Type 0
KernelPlansAreShort =
    (ds : List Description) (matches : List Match) (ssa : Ssa) (deps : List (ℕ × ℕ))
    (plan : List Pack) → MatchUnits ssa matches → IsPlanFor ds matches ssa deps plan →
    length plan ≤ length ssa.units
