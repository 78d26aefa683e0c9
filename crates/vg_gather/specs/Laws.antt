-- What recipes promise of the operands of packs.
use Rattle.std.specs.Prelude.{◌≡◌, ℕ, ◌<◌, ◌^◌, true, List, Some, length}
use Rattle.std.specs.List.{AllByRecursion}
use Rattle.vg_base.specs.Bits.{bits_of_bytes}
use Rattle.vg_plans.specs.World.{inserted as inserted_into, recipe_cost}
use Rattle.vg_program.specs.Valid.{IsConstant}
use Rattle.vg_program.specs.Vectors.{constant_bits}
use Rattle.vg_shapes.specs.declared.match_table.Match.{Match}
use Rattle.vg_shapes.specs.declared.operand.Operand.{Operand}
use Rattle.vg_shapes.specs.declared.pack.Pack.{Pack}
use Rattle.vg_shapes.specs.declared.ssa.Ssa.{Ssa}
use Rattle.vg_shapes.specs.Description.{Description, IsPackable}
use Rattle.vg_shapes.specs.Operands.{IsOperand}
use Rattle.vg_shapes.specs.Order.{Stands}
use Rattle.vg_shapes.specs.Sound.{value_bits}
use Rattle.vg_kernel_plans.specs.Held.{holds, register_of}
use Rattle.vg_kernel_plans.specs.Packing.{packing}
use Rattle.vg_kernel_plans.specs.Wants.{is_constant, wanted_values}
use Rattle.vg_emission.specs.Costs.{AreCounted, cost_of_recipe}
use Rattle.vg_emission.specs.Emission.{Job, constant_bytes, operand_at, recipe_at, value_slots}
use Rattle.vg_emission.specs.Planned.{TakesGiven, values_of}
use Rattle.vg_emission.specs.Program.{inserted_by, job_of, operands_in}
use Rattle.vg_emission.specs.Promises.{Fills, Holds, inserted}
use Rattle.vg_gather.specs.Recipes.{recipe_of, recipes_of}

-- the number of each value of a kernel is below 2 to the value's width
abbrev pub AreInWidths : Ssa → (ℕ → ℕ) → Type 0
AreInWidths ssa numbers = (v w : ℕ) → value_bits ssa v ≡ Some w → numbers v < 2 ^ w

-- the register of the constants of a sound operand, with the values that it wants put in, fills it
abbrev pub InsertsFill : Type 0
InsertsFill =
    (ssa : Ssa) (numbers : ℕ → ℕ) (o : Operand) → IsOperand ssa o → AreInWidths ssa numbers →
    Fills numbers o (inserted numbers (value_slots o) (bits_of_bytes (constant_bytes o)))

-- where no slot of a sound operand wants a value, the register of its constants fills it
abbrev pub ConstantsFill : Type 0
ConstantsFill =
    (ssa : Ssa) (numbers : ℕ → ℕ) (o : Operand) → IsOperand ssa o → is_constant o ≡ true →
    Fills numbers o (bits_of_bytes (constant_bytes o))

-- a register that holds a pack fills each operand that the pack holds
abbrev pub HoldersFill : Type 0
HoldersFill =
    (ds : List Description) (ssa : Ssa) (numbers : ℕ → ℕ) (p : Pack) (o : Operand)
    (register : List ℕ) → holds ds ssa p o ≡ true → Holds ds ssa numbers p register →
    Fills numbers o register

-- a pack gives a value that an operand wants
abbrev pub GivesWanted : Operand → Pack → Type 0
GivesWanted o p = (x : ℕ) × Stands x (wanted_values o) × Stands x (values_of p)

-- a pack that holds an operand does
abbrev pub HoldersGive : Type 0
HoldersGive =
    (ds : List Description) (ssa : Ssa) (p : Pack) (o : Operand) → holds ds ssa p o ≡ true →
    GivesWanted o p

-- a recipe costs what the plan counts for its operand
abbrev pub RecipesCostThePlan : Type 0
RecipesCostThePlan =
    (ds : List Description) (matches : List Match) (ssa : Ssa) (deps : List (ℕ × ℕ))
    (plan : List Pack) (o : Operand) →
    cost_of_recipe ds o (recipe_of ds ssa plan o) ≡ recipe_cost (packing ds matches ssa deps) plan o

-- a recipe inserts what the plan inserts into its operand
abbrev pub RecipesInsertThePlan : Type 0
RecipesInsertThePlan =
    (ds : List Description) (matches : List Match) (ssa : Ssa) (deps : List (ℕ × ℕ))
    (plan : List Pack) (o : Operand) →
    inserted_by (recipe_of ds ssa plan o) o ≡ inserted_into (packing ds matches ssa deps) plan o

-- where descriptions are sound, what a recipe takes for a sound operand stands in registers before
abbrev pub RecipesTakeGiven : Type 0
RecipesTakeGiven =
    (j : Job) (o : Operand) → AllByRecursion IsPackable j.descriptions → IsOperand j.ssa o →
    TakesGiven j o (recipe_of j.descriptions j.ssa j.packs o)

-- the recipes of the operands of packs are counted by the plan of the packs
abbrev pub PlansCountRecipes : Type 0
PlansCountRecipes =
    (ds : List Description) (matches : List Match) (ssa : Ssa) (deps : List (ℕ × ℕ))
    (packs : List Pack) →
    AreCounted
    (job_of ds matches ssa packs (recipes_of ds matches ssa packs))
    (packing ds matches ssa deps)

-- the recipes of a job take what stands in registers before
abbrev pub AllTakeGiven : Job → Type 0
AllTakeGiven j =
    (o : ℕ) → o < length j.operands → TakesGiven j (operand_at j o) (recipe_at j o)

-- those of the operands of packs do, where descriptions and operands are sound
abbrev pub PlansTakeGiven : Type 0
PlansTakeGiven =
    (ds : List Description) (matches : List Match) (ssa : Ssa) (packs : List Pack) →
    AllByRecursion IsPackable ds →
    AllByRecursion (IsOperand ssa) (operands_in ds matches ssa packs) →
    AllTakeGiven (job_of ds matches ssa packs (recipes_of ds matches ssa packs))

-- the constants of a sound operand are those of a register as wide as the operand
abbrev pub ConstantsFit : Type 0
ConstantsFit =
    (ssa : Ssa) (o : Operand) → IsOperand ssa o →
    IsConstant (constant_bytes o) × (constant_bits (length (constant_bytes o)) ≡ o.register)

-- the register of a pack is as wide as each operand that the pack holds
abbrev pub HoldersFit : Type 0
HoldersFit =
    (ds : List Description) (ssa : Ssa) (p : Pack) (o : Operand) → holds ds ssa p o ≡ true →
    register_of ds ssa p ≡ o.register
