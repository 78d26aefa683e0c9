-- What is known of the operands that the packs of a plan take.
use Rattle.std.specs.Prelude.{ℕ, ◌+◌, Bool, false, filter, List, [], ◌∷◌, ◌++◌, length, nat_lt, if◌then◌else◌}
use Rattle.std.specs.List.{list_any}
use Rattle.vg_plans.specs.World.{inserted, is_in, recipe_cost}
use Rattle.vg_shapes.specs.declared.operand.Operand.{Operand}
use Rattle.vg_shapes.specs.declared.pack.Pack.{Pack}
use Rattle.vg_shapes.specs.declared.ssa.Ssa.{Ssa}
use Rattle.vg_shapes.specs.declared.wanted.Wanted.{Wanted}
use Rattle.vg_shapes.specs.declared.wanted.Wanted.TheVariants.{Value, Constant, Nothing}
use Rattle.vg_shapes.specs.Description.{Description}
use Rattle.vg_shapes.specs.Pack.{units_of}
use Rattle.vg_kernel_plans.specs.Packing.{packing}
use Rattle.vg_kernel_plans.specs.SameAs.{same_operand}
use Rattle.vg_kernel_plans.specs.Wants.{wanted_values, wants_value}
use Rattle.vg_cost.specs.declared.recipe_cost.RecipeCost.{RecipeCost}
use Rattle.vg_cost.specs.declared.taken.Taken.{Taken}

-- what the recipe of an operand costs, and whether it inserts values
abbrev pub recipe_for : List Description → Ssa → List Pack → Operand → RecipeCost
recipe_for ds ssa plan o = record {
  lines = recipe_cost (packing ds [] ssa []) plan o;
  is_inserted = nat_lt 0 (length (inserted (packing ds [] ssa []) plan o));
}

-- of inserts of all values
abbrev pub inserts_for : Operand → RecipeCost
inserts_for o = record {
  lines = 1 + length (filter (λ s. wants_value s.wanted) o.slots);
  is_inserted = nat_lt 0 (length (filter (λ s. wants_value s.wanted) o.slots));
}

abbrev pub taken_of : Operand → RecipeCost → Taken
taken_of o recipe = record { operand = o; recipe = recipe }

abbrev pub taken_for : List Description → Ssa → List Pack → Operand → Taken
taken_for ds ssa plan o = record { operand = o; recipe = recipe_for ds ssa plan o }

-- what is known of an operand that is taken, in another plan
abbrev pub kept_for : List Description → Ssa → List Pack → Taken → Taken
kept_for ds ssa plan t = taken_for ds ssa plan t.operand

-- the values that the inserts of an operand take, by what is known of it
abbrev pub inserted_for : Taken → List ℕ
inserted_for t = if t.recipe.is_inserted then wanted_values t.operand else []

-- a value that is wanted is a unit of the pack
abbrev pub is_one_of : Pack → Wanted → Bool
is_one_of p (Value v) = is_in v (units_of p)
is_one_of p (Constant w n) = false
is_one_of p Nothing = false

-- the pack has one of the operand's values
abbrev pub is_touched : Pack → Operand → Bool
is_touched p o = list_any (λ s. is_one_of p s.wanted) o.slots

-- an operand more, if it is not there
abbrev pub add_taken : (Operand → Taken) → List Taken → Operand → List Taken
add_taken know ts o =
    if list_any (λ t. same_operand o t.operand) ts then ts else ts ++ know o ∷ []

abbrev pub add_all : (Operand → Taken) → List Taken → List Operand → List Taken
add_all know ts [] = ts
add_all know ts (o ∷ os) = add_all know (add_taken know ts o) os
