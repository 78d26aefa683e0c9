-- What plans of kernels promise of the programs that are emitted for them. Load groups may feed
-- operands in these plans; those of store groups and producers alone are among them.
use Rattle.std.specs.Prelude.{◌≡◌, ℕ, ◌<◌, ◌≤◌, ◌^◌, List, length, Option, Some, slice_get, slice_index}
use Rattle.std.specs.List.{AllByRecursion}
use Rattle.vg_plans.specs.World.{plan_cost}
use Rattle.vg_program.specs.Meaning.{Instructions}
use Rattle.vg_program.specs.Cost.{cost_of}
use Rattle.vg_program.specs.declared.program.Program.{Program}
use Rattle.vg_program.specs.Valid.{KeepsRules}
use Rattle.vg_pseudo.specs.declared.header.Header.{Header}
use Rattle.vg_shapes.specs.declared.match_table.Match.{Match}
use Rattle.vg_shapes.specs.declared.operand.Operand.{Operand}
use Rattle.vg_shapes.specs.declared.order.Node.{Node}
use Rattle.vg_shapes.specs.declared.pack.Pack.{Pack}
use Rattle.vg_shapes.specs.declared.pack.Pack.TheVariants.{Call}
use Rattle.vg_shapes.specs.declared.ssa.Ssa.{Ssa}
use Rattle.vg_shapes.specs.Description.{Description}
use Rattle.vg_shapes.specs.Matches.{AreMatches}
use Rattle.vg_shapes.specs.Nodes.{ArePacks, IsOrder}
use Rattle.vg_shapes.specs.Operands.{IsOperand}
use Rattle.vg_shapes.specs.RunUnits.{Reached}
use Rattle.vg_shapes.specs.Sound.{IsSound}
use Rattle.vg_kernel_plans.specs.declared.recipe.Recipe.{Recipe}
use Rattle.vg_kernel_plans.specs.declared.recipe.Recipe.TheVariants as recipe
use Rattle.vg_kernel_plans.specs.Completed.{chosen_fed_of}
use Rattle.vg_kernel_plans.specs.Fed.{IsFedPlanFor}
use Rattle.vg_kernel_plans.specs.Packing.{chosen_of, packing}
use Rattle.vg_emission.specs.Emission.{Job, takes_at}
use Rattle.vg_emission.specs.Fit.{AreFit, CallsDescribed, HasHeader}
use Rattle.vg_emission.specs.Laws.{AlwaysKeep, IsRun, MeansUnits}
use Rattle.vg_emission.specs.Planned.{IsPack, IsPlanned}
use Rattle.vg_emission.specs.Program.{job_of, operands_in}
use Rattle.vg_emission.specs.Promises.{CallHolds, RecipeFills}
use Rattle.vg_emission.specs.Truth.{IsCallable, IsTrueOf}
use Rattle.vg_gather.specs.Laws.{AreInWidths}
use Rattle.vg_gather.specs.Recipes.{planned_job, planned_program, recipe_of}
use Rattle.vg_plan_laws.specs.Made.{IsMade, IsMatchedCall}

-- what plans are made of: a sound kernel, descriptions of instances, and all matches of their lanes
pub record AreKnown (ds : List Description) (matches : List Match) (ssa : Ssa) : Type 0 where
  pub sound : IsSound ssa
  pub described : AllByRecursion IsCallable ds
  pub matched : AreMatches ds ssa matches

-- descriptions are true of what calls give
abbrev pub AreTrue : Instructions → List Description → Type 0
AreTrue called ds = AllByRecursion (IsTrueOf called) ds

-- ---- packs and operands

-- each pack of a plan is a store group, consecutive loads, or a matched call
abbrev pub PlansAreMade : Type 0
PlansAreMade =
    (ds : List Description) (matches : List Match) (ssa : Ssa) (deps : List (ℕ × ℕ))
    (plan : List Pack) → IsFedPlanFor ds matches ssa deps plan →
    AllByRecursion (IsMade ds matches ssa) plan

-- a matched call holds its pack, on registers that fill its operands, with the numbers of any run
abbrev pub CallsHold : Type 0
CallsHold =
    (called : Instructions) (ds : List Description) (matches : List Match) (ssa : Ssa)
    (packs : List Pack) (recipes : List Recipe) (places memory args : List ℕ) (last : Reached) →
    AreKnown ds matches ssa → AreTrue called ds → IsRun ssa places memory args last →
    (k e : ℕ) (lanes : List (Option ℕ)) → slice_get packs k ≡ Some (Call e lanes) →
    IsMatchedCall ds matches ssa e lanes →
    CallHolds (job_of ds matches ssa packs recipes) called (slice_index last.numbers)
    (takes_at (job_of ds matches ssa packs recipes) k) e lanes

-- the operands of the packs of a plan have sound slots in registers that there are
abbrev pub OperandsAreSound : Type 0
OperandsAreSound =
    (ds : List Description) (matches : List Match) (ssa : Ssa) (deps : List (ℕ × ℕ))
    (plan : List Pack) → AreKnown ds matches ssa → IsFedPlanFor ds matches ssa deps plan →
    AllByRecursion (IsOperand ssa) (operands_in ds matches ssa plan)

-- a run of a sound kernel gives each value a number below 2 to its width
abbrev pub RunsStayInWidths : Type 0
RunsStayInWidths =
    (ssa : Ssa) (places memory args : List ℕ) (last : Reached) → IsSound ssa →
    IsRun ssa places memory args last → AreInWidths ssa (slice_index last.numbers)

-- the packs of a plan are packs of the kernel
abbrev pub PacksAreRight : Type 0
PacksAreRight =
    (ds : List Description) (matches : List Match) (ssa : Ssa) (deps : List (ℕ × ℕ))
    (plan : List Pack) → AreKnown ds matches ssa → IsFedPlanFor ds matches ssa deps plan →
    ArePacks ssa plan × AllByRecursion (IsPack ds ssa) plan

-- lines can be emitted from a plan
abbrev pub PlansArePlanned : Type 0
PlansArePlanned =
    (ds : List Description) (matches : List Match) (ssa : Ssa) (deps : List (ℕ × ℕ))
    (plan : List Pack) → AreKnown ds matches ssa → IsFedPlanFor ds matches ssa deps plan →
    IsPlanned (planned_job ds matches ssa plan)

-- ---- recipes

-- where descriptions are true, a shuffle fills its operand on registers that hold its packs
abbrev pub ShufflesFill : Type 0
ShufflesFill =
    (called : Instructions) (j : Job) (numbers : ℕ → ℕ) (o : Operand) (e : ℕ) (packs : List ℕ) →
    AllByRecursion IsCallable j.descriptions → AreTrue called j.descriptions →
    recipe_of j.descriptions j.ssa j.packs o ≡ recipe.Shuffle e packs →
    RecipeFills j called numbers o (recipe.Shuffle e packs)

-- the recipe of a sound operand fills it
abbrev pub RecipesFill : Type 0
RecipesFill =
    (called : Instructions) (j : Job) (numbers : ℕ → ℕ) (o : Operand) →
    AllByRecursion IsCallable j.descriptions → AreTrue called j.descriptions →
    IsOperand j.ssa o → AreInWidths j.ssa numbers →
    RecipeFills j called numbers o (recipe_of j.descriptions j.ssa j.packs o)

-- the recipes and the calls of a plan keep what they promise
abbrev pub PlansKeepPromises : Type 0
PlansKeepPromises =
    (called : Instructions) (ds : List Description) (matches : List Match) (ssa : Ssa)
    (deps : List (ℕ × ℕ)) (plan : List Pack) →
    AreKnown ds matches ssa → AreTrue called ds → IsFedPlanFor ds matches ssa deps plan →
    AlwaysKeep (planned_job ds matches ssa plan) called

-- recipes and calls fit the headers of instructions, where the descriptions are those of them
abbrev pub PlansAreFit : Type 0
PlansAreFit =
    (headers : List Header) (ds : List Description) (matches : List Match) (ssa : Ssa)
    (deps : List (ℕ × ℕ)) (plan : List Pack) →
    AreKnown ds matches ssa → AllByRecursion (HasHeader headers) ds →
    IsFedPlanFor ds matches ssa deps plan →
    AreFit (planned_job ds matches ssa plan) headers

-- ---- programs

-- The program of a plan in any legal order leaves the memory that the units of the kernel leave, or
-- traps where they do, in each layout that respects noalias.
abbrev pub ProgramsMeanTheirUnits : Type 0
ProgramsMeanTheirUnits =
    (called : Instructions) (ds : List Description) (matches : List Match) (ssa : Ssa)
    (deps : List (ℕ × ℕ)) (plan : List Pack) (order : List Node) →
    AreKnown ds matches ssa → AreTrue called ds → IsFedPlanFor ds matches ssa deps plan →
    IsOrder ssa matches plan order →
    MeansUnits called (planned_program ds matches ssa plan order) ssa

-- it costs what the plan costs
abbrev pub ProgramsCostTheirPlans : Type 0
ProgramsCostTheirPlans =
    (ds : List Description) (matches : List Match) (ssa : Ssa) (deps : List (ℕ × ℕ))
    (plan : List Pack) (order : List Node) →
    AreKnown ds matches ssa → IsFedPlanFor ds matches ssa deps plan →
    IsOrder ssa matches plan order →
    cost_of (planned_program ds matches ssa plan order)
    ≡ plan_cost (packing ds matches ssa deps) plan

-- it keeps the rules on programs, whatever its text is long, where the descriptions are those of
-- instructions
abbrev pub ProgramsKeepTheRules : Type 0
ProgramsKeepTheRules =
    (headers : List Header) (ds : List Description) (matches : List Match) (ssa : Ssa)
    (deps : List (ℕ × ℕ)) (plan : List Pack) (order : List Node) →
    AreKnown ds matches ssa → AllByRecursion (HasHeader headers) ds →
    IsFedPlanFor ds matches ssa deps plan → IsOrder ssa matches plan order →
    plan_cost (packing ds matches ssa deps) plan < 2 ^ 32 →
    KeepsRules headers (planned_program ds matches ssa plan order)

-- it calls described instances alone
abbrev pub ProgramsCallDescribed : Type 0
ProgramsCallDescribed =
    (headers : List Header) (ds : List Description) (matches : List Match) (ssa : Ssa)
    (deps : List (ℕ × ℕ)) (plan : List Pack) (order : List Node) →
    AreKnown ds matches ssa → AllByRecursion (HasHeader headers) ds →
    IsFedPlanFor ds matches ssa deps plan → IsOrder ssa matches plan order →
    CallsDescribed ds (planned_program ds matches ssa plan order).lines

-- ---- the chosen plan

-- a sound kernel has at most 12,288 units
abbrev pub KernelsAreSmall : Type 0
KernelsAreSmall = (ssa : Ssa) → IsSound ssa → length ssa.units ≤ 12288

-- What the program of the chosen plan keeps, in a legal order: it means the units, costs no more
-- than there are units, and keeps the rules on programs, whatever its text is long.
pub record IsChosenProgram
    (called : Instructions) (headers : List Header) (ssa : Ssa) (p : Program)
    : Type 0 where
  pub means : MeansUnits called p ssa
  pub cheap : cost_of p ≤ length ssa.units
  pub rules : KeepsRules headers p

abbrev pub ChosenProgramsAreRight : Type 0
ChosenProgramsAreRight =
    (called : Instructions) (headers : List Header) (ds : List Description) (matches : List Match)
    (ssa : Ssa) (deps : List (ℕ × ℕ)) (width : ℕ) (order : List Node) →
    AreKnown ds matches ssa → AreTrue called ds → AllByRecursion (HasHeader headers) ds →
    IsOrder ssa matches (chosen_of ds matches ssa deps width) order →
    IsChosenProgram called headers ssa
    (planned_program ds matches ssa (chosen_of ds matches ssa deps width) order)

-- the same of the plan that is chosen where load groups may feed operands
abbrev pub ChosenFedProgramsAreRight : Type 0
ChosenFedProgramsAreRight =
    (called : Instructions) (headers : List Header) (ds : List Description) (matches : List Match)
    (ssa : Ssa) (deps : List (ℕ × ℕ)) (width : ℕ) (order : List Node) →
    AreKnown ds matches ssa → AreTrue called ds → AllByRecursion (HasHeader headers) ds →
    IsOrder ssa matches (chosen_fed_of ds matches ssa deps width) order →
    IsChosenProgram called headers ssa
    (planned_program ds matches ssa (chosen_fed_of ds matches ssa deps width) order)
