-- What programs of kernels promise.
use Rattle.std.specs.Prelude.{◌≡◌, ◌≤◌, ℕ, true, List, [], map}
use Rattle.vg_catalog.specs.Entries.{Entry}
use Rattle.vg_descriptions.specs.Descriptions.{descriptions}
use Rattle.vg_kernel.specs.Tree.{Tree}
use Rattle.vg_program.specs.declared.program.Program.{Program}
use Rattle.vg_program.specs.Cost.{cost_of}
use Rattle.vg_program.specs.Meaning.{Instructions}
use Rattle.vg_shapes.specs.declared.pack.Pack.{Pack}
use Rattle.vg_shapes.specs.declared.ssa.Ssa.{Ssa}
use Rattle.vg_shapes.specs.Depends.{dependences}
use Rattle.vg_shapes.specs.Description.{Description}
use Rattle.vg_plans.specs.Levels.{kept_within}
use Rattle.vg_plans.specs.Members.{Has}
use Rattle.vg_plans.specs.World.{follows, plan_cost, same_packs}
use Rattle.vg_kernel_plans.specs.Completed.{careful_of, completed_of}
use Rattle.vg_kernel_plans.specs.Fed.{fed_aligned, packing_by}
use Rattle.vg_kernel_plans.specs.Packing.{sizes_of}
use Rattle.vg_emission.specs.Laws.{MeansUnits}
use Rattle.vg_emission.specs.Program.{param_of}
use Rattle.vg_compile.specs.Chosen.{KernelPlan, price_of, plain_of_units, IsChosenWhole, IsChosenWide, IsChosenFed, IsOptimalCost, IsOptimalFedCost}
use Rattle.vg_compile.specs.Chosen as plans
use Rattle.vg_compile.specs.Compiled.{IsCompiled}
use Rattle.vg_compile.specs.Means.{Means}
use Rattle.vg_compile.specs.Rewritten.{StandIn}

-- a program that means units which do as a kernel does in each layout that respects its noalias, and has
-- its name and parameters, means the kernel
abbrev pub UnitsMeanKernels : Type 0
UnitsMeanKernels =
    (called : Instructions) (k : Tree) (ssa : Ssa) (p : Program) →
    StandIn k ssa →
    p.name ≡ ssa.name → p.params ≡ map param_of ssa.params → MeansUnits called p ssa →
    Means called p k

-- the plans that the fed search of aligned store groups keeps, so many of each size
abbrev pub IsKeptFed : List Description → KernelPlan → ℕ → List Pack → Type 0
IsKeptFed ds plan width packs =
    let world = packing_by fed_aligned ds plan.matches plan.ssa (dependences plan.ssa) in
    Has packs (kept_within (follows world) (same_packs world) (plan_cost world) width (sizes_of plan.ssa))

-- What a program of more plans costs, beside a chosen plan, a chosen wide plan and a chosen fed plan of its
-- kernel: at most what each costs, what the empty plan costs, what the plain plan costs, what the careful
-- plain plan costs, and what each plan that the fed search keeps costs when it is completed. In a kernel of at most 256 units no plan, no wide plan and no fed plan of aligned store
-- groups costs less where no lesser size is crowded.
pub record CostsNoMore
    (entries : List Entry) (set : ℕ) (k : Tree) (width : ℕ) (p : Program)
    : Type 0 where
  pub whole : KernelPlan
  pub wide : KernelPlan
  pub fed : KernelPlan
  pub whole_chosen : IsChosenWhole (descriptions set entries) k width whole
  pub wide_chosen : IsChosenWide (descriptions set entries) k width wide
  pub fed_chosen : IsChosenFed (descriptions set entries) k width fed
  pub below_whole : cost_of p ≤ price_of (descriptions set entries) whole
  pub below_wide : cost_of p ≤ price_of (descriptions set entries) wide
  pub below_fed : cost_of p ≤ price_of (descriptions set entries) fed
  pub below_empty : cost_of p ≤ plans.cost_of (descriptions set entries) whole.matches whole.ssa []
  pub below_plain :
      cost_of p
      ≤ plans.cost_of (descriptions set entries) whole.matches whole.ssa
      (plain_of_units (descriptions set entries) whole.matches whole.ssa)
  pub below_careful :
      cost_of p
      ≤ plans.cost_of (descriptions set entries) fed.matches fed.ssa
      (careful_of (descriptions set entries) fed.matches fed.ssa (dependences fed.ssa))
  pub below_completed :
      (packs : List Pack) → IsKeptFed (descriptions set entries) fed width packs →
      cost_of p
      ≤ plans.cost_of (descriptions set entries) fed.matches fed.ssa
      (completed_of (descriptions set entries) fed.matches fed.ssa (dependences fed.ssa) packs)
  pub optimal : IsOptimalCost (descriptions set entries) whole.matches whole.ssa width (cost_of p)
  pub optimal_wide : IsOptimalCost (descriptions set entries) wide.matches wide.ssa width (cost_of p)
  pub optimal_fed : IsOptimalFedCost (descriptions set entries) fed.matches fed.ssa width (cost_of p)

-- more plans cost no more
abbrev pub MorePlansCostNoMore : Type 0
MorePlansCostNoMore =
    (entries : List Entry) (set : ℕ) (k : Tree) (width : ℕ) (p : Program) →
    IsCompiled entries set k width true p → CostsNoMore entries set k width p
