-- What plans have of what is asked where they are priced and emitted, and what their programs are.
use Rattle.std.specs.Prelude.{◌≡◌, ◌≤◌, ◌<◌, ◌^◌, ℕ, List, length}
use Rattle.std.specs.List.{AllByRecursion}
use Rattle.vg_plans.specs.World.{plan_cost}
use Rattle.vg_program.specs.declared.program.Program.{Program}
use Rattle.vg_program.specs.Cost.{cost_of}
use Rattle.vg_program.specs.Meaning.{Instructions}
use Rattle.vg_program.specs.Sizes.{TakeFew}
use Rattle.vg_program.specs.Valid.{IsValid, KeepsRules}
use Rattle.vg_pseudo.specs.declared.header.Header.{Header}
use Rattle.vg_shapes.specs.declared.match_table.Match.{Match}
use Rattle.vg_shapes.specs.declared.order.Node.{Node}
use Rattle.vg_shapes.specs.declared.pack.Pack.{Pack}
use Rattle.vg_shapes.specs.declared.ssa.Ssa.{Ssa}
use Rattle.vg_shapes.specs.Depends.{dependences}
use Rattle.vg_shapes.specs.Description.{Description}
use Rattle.vg_shapes.specs.Nodes.{IsOrder}
use Rattle.vg_shapes.specs.Sound.{IsSound}
use Rattle.vg_kernel_plans.specs.declared.choice.Choice.{Choice}
use Rattle.vg_kernel_plans.specs.Fed.{IsFedPlanFor, IsPlanBy}
use Rattle.vg_kernel_plans.specs.Laws.{MatchUnits}
use Rattle.vg_kernel_plans.specs.Packing.{packing}
use Rattle.vg_kernel_plans.specs.Taken.{IsShort, MatchesNear}
use Rattle.vg_emission.specs.Fit.{AreFit, CallsDescribed, HasHeader}
use Rattle.vg_emission.specs.Laws.{AlwaysKeep, MeansUnits}
use Rattle.vg_emission.specs.Planned.{IsPlanned}
use Rattle.vg_gather.specs.Recipes.{planned_job, planned_program}
use Rattle.vg_plan_laws.specs.Laws.{AreKnown, AreTrue}
use Rattle.vg_plan_relations.specs.Plans.{IsFedPlanByNodes}

-- ---- plans and matches

-- the packs of plans are short, also where load groups feed operands
abbrev pub PacksAreShort : Type 0
PacksAreShort =
    (ds : List Description) (matches : List Match) (ssa : Ssa) (deps : List (ℕ × ℕ))
    (plan : List Pack) → AreKnown ds matches ssa → IsFedPlanFor ds matches ssa deps plan →
    AllByRecursion IsShort plan

-- so are those of plans by any choice of the packs that are tried, as a search over these plans asks
abbrev pub PacksByChoiceAreShort : Type 0
PacksByChoiceAreShort =
    (c : Choice) (ds : List Description) (matches : List Match) (ssa : Ssa) (deps : List (ℕ × ℕ)) →
    AreKnown ds matches ssa → (plan : List Pack) → IsPlanBy c ds matches ssa deps plan →
    AllByRecursion IsShort plan

-- the leaves that matches bind begin near
abbrev pub MatchesAreNear : Type 0
MatchesAreNear =
    (ds : List Description) (matches : List Match) (ssa : Ssa) → AreKnown ds matches ssa →
    MatchesNear matches

-- the matches are those of units
abbrev pub MatchesAreOfUnits : Type 0
MatchesAreOfUnits =
    (ds : List Description) (matches : List Match) (ssa : Ssa) → AreKnown ds matches ssa →
    MatchUnits ssa matches

-- ---- emission

-- What emission asks of a plan and of the matches, and what its clauses ask of recipes and calls.
pub record CanBeEmitted
    (ds : List Description) (matches : List Match) (ssa : Ssa) (plan : List Pack)
    : Type 0 where
  pub sound : IsSound ssa
  pub short : AllByRecursion IsShort plan
  pub near : MatchesNear matches
  pub planned : IsPlanned (planned_job ds matches ssa plan)
  pub keeps : (called : Instructions) → AreTrue called ds
      → AlwaysKeep (planned_job ds matches ssa plan) called
  pub fit : (headers : List Header) → AllByRecursion (HasHeader headers) ds
      → AreFit (planned_job ds matches ssa plan) headers

-- so of each plan by its packs, units and nodes, in which load groups may feed operands
abbrev pub PlansCanBeEmitted : Type 0
PlansCanBeEmitted =
    (ds : List Description) (matches : List Match) (ssa : Ssa) (plan : List Pack) →
    AreKnown ds matches ssa → IsFedPlanByNodes ds matches ssa plan →
    CanBeEmitted ds matches ssa plan

-- instructions that cost at least a line
abbrev pub CostSome : List Header → Type 0
CostSome headers = AllByRecursion (λ h. 1 ≤ h.cost) headers

-- What the program of a plan is for the units of a kernel. Where the descriptions are true, it
-- leaves the memory that the units leave or traps where they do; it costs what the plan costs; where
-- the descriptions are those of instructions, it calls described instances alone and keeps the rules
-- on programs, if its cost is small, and has a text within the bound, if it costs at most a line for
-- each unit.
pub record IsProgramOf
    (ds : List Description) (matches : List Match) (ssa : Ssa) (plan : List Pack) (p : Program)
    : Type 0 where
  pub means : (called : Instructions) → AreTrue called ds → MeansUnits called p ssa
  pub cost : cost_of p ≡ plan_cost (packing ds matches ssa (dependences ssa)) plan
  pub calls : (headers : List Header) → AllByRecursion (HasHeader headers) ds
      → CallsDescribed ds p.lines
  pub rules : (headers : List Header) → AllByRecursion (HasHeader headers) ds
      → cost_of p < 2 ^ 32 → KeepsRules headers p
  pub valid : (headers : List Header) → AllByRecursion (HasHeader headers) ds → TakeFew headers
      → CostSome headers → cost_of p ≤ length ssa.units → IsValid headers p

-- so the program that is emitted for a plan by its packs, units and nodes, in which load groups may
-- feed operands, in any legal order
abbrev pub EmittedProgramsAreRight : Type 0
EmittedProgramsAreRight =
    (ds : List Description) (matches : List Match) (ssa : Ssa) (plan : List Pack)
    (order : List Node) →
    AreKnown ds matches ssa → IsFedPlanByNodes ds matches ssa plan →
    IsOrder ssa matches plan order →
    IsProgramOf ds matches ssa plan (planned_program ds matches ssa plan order)
