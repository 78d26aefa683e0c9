-- What lines can be emitted from: packs that are right for a kernel, and recipes that take what stands.
use Rattle.std.specs.Prelude.{◌<◌, ℕ, List, [], ◌∷◌, length, filter_map, nat_eq, IsTrue}
use Rattle.std.specs.List.{AllByRecursion, list_any}
use Rattle.vg_shapes.specs.declared.operand.Operand.{Operand}
use Rattle.vg_shapes.specs.declared.pack.Pack.{Pack}
use Rattle.vg_shapes.specs.declared.pack.Pack.TheVariants.{Stores, Loads, Call}
use Rattle.vg_shapes.specs.declared.ssa.Ssa.{Ssa}
use Rattle.vg_shapes.specs.Description.{Description}
use Rattle.vg_shapes.specs.Nodes.{ArePacks}
use Rattle.vg_shapes.specs.Operands.{IsOperand, lanes_of}
use Rattle.vg_shapes.specs.Order.{Stands}
use Rattle.vg_shapes.specs.Pack.{IsLoadPack, IsStoreGroup}
use Rattle.vg_shapes.specs.Sound.{IsSound}
use Rattle.vg_kernel_plans.specs.declared.recipe.Recipe.{Recipe}
use Rattle.vg_kernel_plans.specs.declared.recipe.Recipe.TheVariants as recipe
use Rattle.vg_kernel_plans.specs.Held.{lane_width_of}
use Rattle.vg_kernel_plans.specs.Wants.{wanted_values}
use Rattle.vg_emission.specs.Emission.{Job, operand_at, pack_at, recipe_at}

-- the width of a lane
abbrev pub IsLaneWidth : ℕ → Type 0
IsLaneWidth n = IsTrue (list_any (nat_eq n) (8 ∷ 16 ∷ 32 ∷ 64 ∷ []))

-- a store group, consecutive loads, or a call of a description
abbrev pub IsPack : List Description → Ssa → Pack → Type 0
IsPack ds ssa (Stores us) = IsStoreGroup ssa us
IsPack ds ssa (Loads us) = IsLoadPack ssa us
IsPack ds ssa (Call e lanes) = (e < length ds) × IsLaneWidth (lane_width_of ds ssa (Call e lanes))

-- the values that a pack gives, lane 0 first
abbrev pub values_of : Pack → List ℕ
values_of p = filter_map (λ v. v) (lanes_of p)

-- a pack gives a value that an operand wants
abbrev pub GivesOne : Job → Operand → ℕ → Type 0
GivesOne j o k = (x : ℕ) × Stands x (wanted_values o) × Stands x (values_of (pack_at j k))

-- what a recipe takes stands in registers before: each pack gives a value that the operand wants
abbrev pub TakesGiven : Job → Operand → Recipe → Type 0
TakesGiven j o (recipe.Reuse k) = GivesOne j o k
TakesGiven j o (recipe.Constant bs) = Unit {0}
TakesGiven j o (recipe.Shuffle e packs) = AllByRecursion (GivesOne j o) packs
TakesGiven j o recipe.Inserts = IsOperand j.ssa o

-- The kernel is sound, its packs are packs of it, and the recipes take what stands before.
pub record IsPlanned (j : Job) : Type 0 where
  pub sound : IsSound j.ssa
  pub packs : ArePacks j.ssa j.packs
  pub kinds : AllByRecursion (IsPack j.descriptions j.ssa) j.packs
  pub recipes : (o : ℕ) → o < length j.operands
      → TakesGiven j (operand_at j o) (recipe_at j o)
