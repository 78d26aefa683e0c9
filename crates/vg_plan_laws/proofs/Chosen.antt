-- The program of the chosen plan costs no more than there are units.
use Rattle.std.proofs.Common.{ℕ, ◌^◌, ◌<◌, ◌≤◌, not, List, [], ◌∷◌, ◌++◌, length, refl, sym, subst, inl, inr, arith}
use Rattle.std.specs.List.{AllByRecursion}
use Rattle.std.proofs.lemmas.Bool.{cases_Bool}
use Rattle.std.proofs.lemmas.List.Filters.{length-filter_both}
use Rattle.vg_plans.specs.Levels.{met_within}
use Rattle.vg_plans.specs.World.{follows, is_emitted, plan_cost, same_packs, scalar_lines}
use Rattle.vg_plans.proofs.Plain.{chosen-plan, plain-plan}
use Rattle.vg_program.specs.Meaning.{Instructions}
use Rattle.vg_pseudo.specs.declared.header.Header.{Header}
use Rattle.vg_shapes.specs.declared.match_table.Match.{Match}
use Rattle.vg_shapes.specs.declared.order.Node.{Node}
use Rattle.vg_shapes.specs.declared.pack.Pack.{Pack}
use Rattle.vg_shapes.specs.declared.ssa.Ssa.{Ssa}
use Rattle.vg_shapes.specs.Description.{Description}
use Rattle.vg_shapes.specs.Nodes.{IsOrder}
use Rattle.vg_shapes.specs.Sound.{is_store}
use Rattle.vg_kernel_plans.specs.Completed.{chosen_fed_of}
use Rattle.vg_kernel_plans.specs.Fed.{IsFedPlanFor, fed_aligned, unfed}
use Rattle.vg_kernel_plans.specs.Packing.{chosen_of, falling_units, packing, plain_of, sizes_of}
use Rattle.vg_kernel_plans.proofs.FedPlans.{fed-fits, may-be-fed}
use Rattle.vg_kernel_plans.proofs.Inside.{units-counted}
use Rattle.vg_kernel_plans.proofs.Least.{least-first}
use Rattle.vg_emission.specs.Fit.{HasHeader}
use Rattle.vg_gather.specs.Recipes.{planned_program}
use Rattle.vg_plan_laws.specs.Laws.{AreKnown, AreTrue, ChosenFedProgramsAreRight, ChosenProgramsAreRight, IsChosenProgram, KernelsAreSmall}
use Rattle.vg_plan_laws.proofs.Programs.{programs-cost, programs-keep-rules, programs-mean}

pub kernels-are-small : KernelsAreSmall
kernels-are-small ssa sound =
    let split = length-filter_both is_store (λ u. not (is_store u)) (λ u. refl) ssa.units in
    let stores = sound.stores in
    let uses = sound.uses in
    omega arith

module _ (ds : List Description) (matches : List Match) (ssa : Ssa) (deps : List (ℕ × ℕ)) where
  -- without packs a unit costs at most one line
  few-lines : (needed vs : List ℕ)
      → scalar_lines (packing ds matches ssa deps) [] needed vs ≤ length vs
  few-lines needed [] = omega arith
  few-lines needed (v ∷ vs) =
      let w = packing ds matches ssa deps in
      elim (cases_Bool (is_emitted w [] needed v)) [
        | inl t ↦ rw t (let rest = few-lines (w.uses_of v ++ needed) vs in omega arith)
        | inr f ↦ rw f (let rest = few-lines needed vs in omega arith)
      ]

  empty-cheap : plan_cost (packing ds matches ssa deps) [] ≤ length ssa.units
  empty-cheap =
      let lines = few-lines [] (falling_units ssa) in
      let units = units-counted ssa in
      omega arith

  chosen-is : (width : ℕ) → IsFedPlanFor ds matches ssa deps (chosen_of ds matches ssa deps width)
  chosen-is width =
      let w = packing ds matches ssa deps in
      may-be-fed ds matches ssa deps unfed (chosen_of ds matches ssa deps width)
      (chosen-plan (follows w) (same_packs w) (plan_cost w) width (sizes_of ssa)
      (plain_of ds matches ssa deps) (plain-plan w _))

  chosen-cheap : (width : ℕ)
      → plan_cost (packing ds matches ssa deps)
      (chosen_of ds matches ssa deps width) ≤ length ssa.units
  chosen-cheap width =
      let w = packing ds matches ssa deps in
      let plain = plain_of ds matches ssa deps in
      let below =
      least-first (plan_cost w) []
      (plain ∷ met_within (follows w) (same_packs w) (plan_cost w) width (sizes_of ssa)) in
      let least = empty-cheap in
      omega arith

-- the program of a plan that costs no more than there are units
program-is : (called : Instructions) (headers : List Header) (ds : List Description)
    (matches : List Match) (ssa : Ssa) (deps : List (ℕ × ℕ)) (plan : List Pack) (order : List Node)
    → AreKnown ds matches ssa → AreTrue called ds → AllByRecursion (HasHeader headers) ds
    → IsFedPlanFor ds matches ssa deps plan
    → plan_cost (packing ds matches ssa deps) plan ≤ length ssa.units
    → IsOrder ssa matches plan order
    → IsChosenProgram called headers ssa (planned_program ds matches ssa plan order)
program-is called headers ds matches ssa deps plan order known are_true have is cheap legal =
    let small = kernels-are-small ssa known.sound in
    record {
      means = programs-mean called ds matches ssa deps plan order known are_true is legal;
      cheap =
          subst (λ n. n ≤ length ssa.units)
          (sym (programs-cost ds matches ssa deps plan order known is legal)) cheap;
      rules =
          programs-keep-rules headers ds matches ssa deps plan order known have is legal
          (below (omega arith));
    }
  where
    below : {n : ℕ} → n ≤ 12288 → n < 2 ^ 32
    below h = omega arith

pub chosen-programs : ChosenProgramsAreRight
chosen-programs called headers ds matches ssa deps width order known are_true have legal =
    program-is called headers ds matches ssa deps (chosen_of ds matches ssa deps width) order known
    are_true have (chosen-is ds matches ssa deps width) (chosen-cheap ds matches ssa deps width) legal

pub chosen-fed-programs : ChosenFedProgramsAreRight
chosen-fed-programs called headers ds matches ssa deps width order known are_true have legal =
    let plan = chosen_fed_of ds matches ssa deps width in
    let fits = fed-fits ds matches ssa deps width in
    let below = fits.below_scalar in
    let least = empty-cheap ds matches ssa deps in
    let cheap : plan_cost (packing ds matches ssa deps) plan ≤ length ssa.units = omega (arith, below, least) in
    program-is called headers ds matches ssa deps plan order known are_true have
    (may-be-fed ds matches ssa deps fed_aligned plan fits.plan) cheap legal
