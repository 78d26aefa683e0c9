-- The recipes and the calls of a plan keep what they promise.
use Rattle.std.proofs.Common.{◌≡◌, ℕ, false, List, [], sym, subst}
use Rattle.std.specs.Prelude.{slice_index}
use Rattle.std.specs.List.{AllByRecursion}
use Rattle.std.proofs.lemmas.List.{get_or-map}
use Rattle.vg_program.specs.Meaning.{Instructions}
use Rattle.vg_shapes.specs.declared.operand.Operand.{Operand}
use Rattle.vg_shapes.specs.declared.pack.Pack.TheVariants.{Call}
use Rattle.vg_shapes.specs.Operands.{IsOperand}
use Rattle.vg_kernel_plans.specs.declared.recipe.Recipe.{Recipe}
use Rattle.vg_kernel_plans.specs.declared.recipe.Recipe.TheVariants as recipe
use Rattle.vg_kernel_plans.specs.Held.{holds}
use Rattle.vg_kernel_plans.specs.Wants.{is_constant}
use Rattle.vg_emission.specs.Emission.{Job, no_description, operand_at, pack_at}
use Rattle.vg_emission.specs.Program.{operands_in}
use Rattle.vg_emission.specs.Promises.{RecipeFills}
use Rattle.vg_emission.specs.Truth.{IsCallable, IsTrueOf}
use Rattle.vg_emission.proofs.Jobs.{listed}
use Rattle.vg_gather.specs.Laws.{AreInWidths}
use Rattle.vg_gather.specs.Recipes.{description_in, holder, packs_of, planned_job, recipe_of, recipes_of}
use Rattle.vg_gather.proofs.Held.{holders-fill}
use Rattle.vg_gather.proofs.Inserts.{constants-fill, inserts-fill}
use Rattle.vg_gather.proofs.Takes.{first-passes}
use Rattle.vg_plan_laws.specs.Laws.{AreTrue, PlansKeepPromises, RecipesFill, ShufflesFill}
use Rattle.vg_plan_laws.specs.Made.{IsMade}
use Rattle.vg_plan_laws.proofs.Calls.{calls-hold, runs-stay}
use Rattle.vg_plan_laws.proofs.Filled.{all-get}
use Rattle.vg_plan_laws.proofs.Planned.{operands-are-sound, plans-are-made}
use Rattle.vg_plan_laws.proofs.Recipes.{IsReady, recipe-is}
use Rattle.vg_plan_laws.proofs.Shuffles.{shuffle-fills}

-- ---- recipes

module _ (called : Instructions) (j : Job) (numbers : ℕ → ℕ) (o : Operand)
    (described : AllByRecursion IsCallable j.descriptions)
    (are_true : AreTrue called j.descriptions) where
  ready-fills : is_constant o ≡ false → (n : ℕ) → IsReady j.descriptions j.ssa j.packs o n
      → RecipeFills j called numbers o
      (recipe.Shuffle n (packs_of j.descriptions j.ssa j.packs o
      (description_in j.descriptions n)))
  ready-fills varies n ready rs h =
      shuffle-fills j called numbers o (description_in j.descriptions n) rs
      (listed IsCallable j.descriptions n no_description described ready.low).packable
      (listed (IsTrueOf called) j.descriptions n no_description are_true ready.low)
      varies ready.can ready.had h

  -- a recipe that is a shuffle fills the operand
  abbrev IfShuffle : Recipe → Type 0
  IfShuffle r =
      (e : ℕ) (packs : List ℕ) → r ≡ recipe.Shuffle e packs → RecipeFills j called numbers o
      (recipe.Shuffle e packs)

  shuffle-recipe : IfShuffle (recipe_of j.descriptions j.ssa j.packs o)
  shuffle-recipe =
      recipe-is j.descriptions j.ssa j.packs o IfShuffle (λ any e packs f. absurd (cc))
      (λ c e packs f. absurd (cc))
      (λ varies n ready e packs f. subst (RecipeFills j called numbers o) f
      (ready-fills varies n ready))
      (λ e packs f. absurd (cc))

  recipe-fills : IsOperand j.ssa o → AreInWidths j.ssa numbers
      → RecipeFills j called numbers o (recipe_of j.descriptions j.ssa j.packs o)
  recipe-fills is wide =
      recipe-is j.descriptions j.ssa j.packs o (RecipeFills j called numbers o)
      (λ any register h. holders-fill j.descriptions j.ssa numbers
      (pack_at j (holder j.descriptions j.ssa j.packs o)) o register
      (first-passes (λ p. holds j.descriptions j.ssa p o) j.packs any) h)
      (λ c. constants-fill j.ssa numbers o is c)
      ready-fills
      (inserts-fill j.ssa numbers o is wide)

pub shuffles-fill : ShufflesFill
shuffles-fill called j numbers o e packs described are_true is =
    shuffle-recipe called j numbers o described are_true e packs is

pub recipes-fill : RecipesFill
recipes-fill called j numbers o described are_true is wide =
    recipe-fills called j numbers o described are_true is wide

-- ---- plans

pub plans-keep : PlansKeepPromises
plans-keep called ds matches ssa deps plan known are_true is places memory args last run =
    let j = planned_job ds matches ssa plan in
    let os = operands_in ds matches ssa plan in
    let none : Operand = record { register = 0; slots = [] } in
    let numbers = slice_index last.numbers in
    let wide = runs-stay ssa places memory args last known.sound run in
    let sound = operands-are-sound ds matches ssa deps plan known is in
    record {
      recipes = λ o low.
          subst (RecipeFills j called numbers (operand_at j o))
          (sym (get_or-map (recipe_of ds ssa plan) os o none (recipe.Constant []) low))
          (recipes-fill called j numbers (operand_at j o) known.described are_true
          (listed (IsOperand ssa) os o none sound low) wide);
      calls = λ k e lanes at.
          calls-hold called ds matches ssa plan
          (recipes_of ds matches ssa plan) places memory args last known are_true run k e lanes at
          (all-get (IsMade ds matches ssa) plan k (Call e lanes)
          (plans-are-made ds matches ssa deps plan is) at);
    }
