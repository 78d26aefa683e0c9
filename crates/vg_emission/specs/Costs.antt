-- What emitted programs cost.
use Rattle.std.specs.Prelude.{◌≡◌, ℕ, ◌+◌, ◌<◌, List, length, slice_index_or}
use Rattle.vg_plans.specs.World.{inserted, plan_cost, recipe_cost, World}
use Rattle.vg_program.specs.Cost.{cost_of}
use Rattle.vg_shapes.specs.declared.match_table.Match.{Match}
use Rattle.vg_shapes.specs.declared.operand.Operand.{Operand}
use Rattle.vg_shapes.specs.declared.order.Node.{Node}
use Rattle.vg_shapes.specs.declared.pack.Pack.{Pack}
use Rattle.vg_shapes.specs.declared.ssa.Ssa.{Ssa}
use Rattle.vg_shapes.specs.Description.{Description}
use Rattle.vg_shapes.specs.Nodes.{IsOrder}
use Rattle.vg_kernel_plans.specs.declared.recipe.Recipe.{Recipe}
use Rattle.vg_kernel_plans.specs.declared.recipe.Recipe.TheVariants as recipe
use Rattle.vg_kernel_plans.specs.Packing.{packing}
use Rattle.vg_kernel_plans.specs.Wants.{wanted_values}
use Rattle.vg_emission.specs.Emission.{Job, no_description, operand_at, recipe_at}
use Rattle.vg_emission.specs.Planned.{IsPlanned}
use Rattle.vg_emission.specs.Program.{inserted_by, job_of, program_of}

-- what the lines of a recipe cost
abbrev pub cost_of_recipe : List Description → Operand → Recipe → ℕ
cost_of_recipe ds o (recipe.Reuse k) = 0
cost_of_recipe ds o (recipe.Constant bs) = 1
cost_of_recipe ds o (recipe.Shuffle e packs) = (slice_index_or ds e no_description).cost
cost_of_recipe ds o recipe.Inserts = 1 + length (wanted_values o)

-- There is a recipe for each operand. It costs what the cost of the plan counts, and inserts what the
-- plan inserts.
pub record AreCounted (j : Job) (w : World Pack Operand Operand) : Type 0 where
  pub each : length j.recipes ≡ length j.operands
  pub cost : (o : ℕ) → o < length j.operands
      → cost_of_recipe j.descriptions (operand_at j o) (recipe_at j o)
      ≡ recipe_cost w j.packs (operand_at j o)
  pub inserts : (o : ℕ) → o < length j.operands
      → inserted_by (recipe_at j o) (operand_at j o) ≡ inserted w j.packs (operand_at j o)

-- the program that is emitted for packs costs what they cost as a plan
abbrev pub EmittedCostsThePlan : Type 0
EmittedCostsThePlan =
    (ds : List Description) (matches : List Match) (ssa : Ssa) (deps : List (ℕ × ℕ))
    (packs : List Pack) (recipes : List Recipe) (order : List Node) →
    IsPlanned (job_of ds matches ssa packs recipes) → IsOrder ssa matches packs order →
    AreCounted (job_of ds matches ssa packs recipes) (packing ds matches ssa deps) →
    cost_of (program_of ds matches ssa packs recipes order)
    ≡ plan_cost (packing ds matches ssa deps) packs
