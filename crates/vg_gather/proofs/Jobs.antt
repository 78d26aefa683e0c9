-- The recipes of the operands of packs.
use Rattle.std.proofs.Common.{◌≡◌, ℕ, zero, suc, ◌<◌, List, [], ◌∷◌, length, map, sym, ap, subst, ◌∙◌, arith}
use Rattle.std.specs.Prelude.{slice_index_or}
use Rattle.std.specs.List.{AllByRecursion}
use Rattle.std.proofs.lemmas.List.{get_or-map, length-map}
use Rattle.vg_shapes.specs.declared.operand.Operand.{Operand}
use Rattle.vg_kernel_plans.specs.declared.recipe.Recipe.{Recipe}
use Rattle.vg_kernel_plans.specs.declared.recipe.Recipe.TheVariants as recipe
use Rattle.vg_emission.specs.Costs.{cost_of_recipe}
use Rattle.vg_emission.specs.Planned.{TakesGiven}
use Rattle.vg_emission.specs.Program.{inserted_by, job_of, operands_in}
use Rattle.vg_gather.specs.Laws.{PlansCountRecipes, PlansTakeGiven}
use Rattle.vg_gather.specs.Recipes.{recipe_of, recipes_of}
use Rattle.vg_gather.proofs.Prices.{recipes-cost-the-plan, recipes-insert-the-plan}
use Rattle.vg_gather.proofs.Takes.{recipes-take-given}

abbrev none : Operand
none = record { register = 0; slots = [] }

recipe-at : (f : Operand → Recipe) (os : List Operand) (o : ℕ) → o < length os
    → slice_index_or (map f os) o (recipe.Constant []) ≡ f (slice_index_or os o none)
recipe-at f os o low = get_or-map f os o none (recipe.Constant []) low

all-at : {X : Type 0} (P : X → Type 0) (xs : List X) (k : ℕ) (d : X) → AllByRecursion P xs → k < length xs
    → P (slice_index_or xs k d)
all-at P [] k d h low = absurd (omega arith)
all-at P (x ∷ xs) zero d h low = h.0
all-at P (x ∷ xs) (suc k) d h low = all-at P xs k d h.1 (omega arith)

pub plans-count-recipes : PlansCountRecipes
plans-count-recipes ds matches ssa deps packs =
    let os = operands_in ds matches ssa packs in
    let f = recipe_of ds ssa packs in
    record {
      each = length-map os f;
      cost = λ o low.
          ap (cost_of_recipe ds (slice_index_or os o none)) (recipe-at f os o low)
          ∙ recipes-cost-the-plan ds matches ssa deps packs (slice_index_or os o none);
      inserts = λ o low.
          ap (λ r. inserted_by r (slice_index_or os o none)) (recipe-at f os o low)
          ∙ recipes-insert-the-plan ds matches ssa deps packs (slice_index_or os o none);
    }

pub plans-take-given : PlansTakeGiven
plans-take-given ds matches ssa packs packable are o low =
    let os = operands_in ds matches ssa packs in
    let j = job_of ds matches ssa packs (recipes_of ds matches ssa packs) in
    let own = slice_index_or os o none in
    subst (TakesGiven j own) (sym (recipe-at (recipe_of ds ssa packs) os o low))
    (recipes-take-given j own packable (all-at _ os o none are low))
