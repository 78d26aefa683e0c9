-- Which recipe an operand takes beside the packs of a plan.
use Rattle.std.specs.Prelude.{ℕ, suc, Bool, List, [], ◌∷◌, length, map, filter, nat_eq, slice_index_or, if◌then◌else◌}
use Rattle.std.specs.List.{flat_map, list_all, list_any, position_or_len}
use Rattle.vg_plans.specs.Levels.{first_least}
use Rattle.vg_program.specs.declared.program.Program.{Program}
use Rattle.vg_shapes.specs.declared.match_table.Match.{Match}
use Rattle.vg_shapes.specs.declared.operand.Operand.{Operand}
use Rattle.vg_shapes.specs.declared.operand.Slot.{Slot}
use Rattle.vg_shapes.specs.declared.order.Node.{Node}
use Rattle.vg_shapes.specs.declared.pack.Pack.{Pack}
use Rattle.vg_shapes.specs.declared.ssa.Ssa.{Ssa}
use Rattle.vg_shapes.specs.Description.{Description}
use Rattle.vg_kernel_plans.specs.declared.recipe.Recipe.{Recipe}
use Rattle.vg_kernel_plans.specs.declared.recipe.Recipe.TheVariants as recipe
use Rattle.vg_kernel_plans.specs.Held.{holds}
use Rattle.vg_kernel_plans.specs.Shuffles.{moved_from, parts_from, shuffle_of}
use Rattle.vg_kernel_plans.specs.Wants.{is_constant, wanted_slots}
use Rattle.vg_emission.specs.Emission.{Job, constant_bytes, no_description}
use Rattle.vg_emission.specs.Program.{job_of, operands_in, program_of}

-- the index of the first pack that holds an operand; the number of packs where none does
abbrev pub holder : List Description → Ssa → List Pack → Operand → ℕ
holder ds ssa plan o = position_or_len (λ p. holds ds ssa p o) plan

-- ---- the packs that a shuffle takes

-- what the pack of a parameter has to hold
abbrev pub part : List (ℕ × Slot) → ℕ → ℕ → Operand
part moved k register = record {
  register = register;
  slots = map (λ m. m.1) (filter (λ m. nat_eq m.0 k) moved);
}

-- the pack of the first parameter in use, of which these are the parts
abbrev pub spare : (Operand → ℕ) → List Operand → ℕ
spare held [] = 0
spare held (o ∷ os) = held o

-- for each parameter the pack that holds its part, the first having this number; for one that is not
-- in use this one
abbrev pub packs_from : (Operand → ℕ) → List (ℕ × Slot) → ℕ → ℕ → List ℕ → List ℕ
packs_from held moved other k [] = []
packs_from held moved other k (register ∷ params) =
    let own = part moved k register in
    (if nat_eq (length own.slots) 0 then other else held own)
    ∷ packs_from held moved other (suc k) params

-- the packs of the parameters of a shuffle that makes an operand
abbrev pub packs_of : List Description → Ssa → List Pack → Operand → Description → List ℕ
packs_of ds ssa plan o e =
    let moved = flat_map (moved_from e) (wanted_slots o) in
    let held = holder ds ssa plan in
    packs_from held moved (spare held (parts_from moved 0 e.params)) 0 e.params

-- ---- the shuffle of least cost

abbrev pub description_in : List Description → ℕ → Description
description_in ds d = slice_index_or ds d no_description

-- each part of a shuffle has a pack that holds it
abbrev pub can_be_had : List Description → Ssa → List Pack → ℕ × List Operand → Bool
can_be_had ds ssa plan s = list_all (λ n. list_any (λ p. holds ds ssa p n) plan) s.1

-- the numbers of the descriptions that are shuffles which can make an operand, the first of them
-- having this number
abbrev pub ready_from : List Description → Ssa → List Pack → Operand → ℕ → List Description → List ℕ
ready_from ds ssa plan o d [] = []
ready_from ds ssa plan o d (e ∷ es) =
    if list_any (can_be_had ds ssa plan) (shuffle_of o e)
    then d ∷ ready_from ds ssa plan o (suc d) es
    else ready_from ds ssa plan o (suc d) es

-- the first of those of least cost; inserts where there is none
abbrev pub shuffled : List Description → Ssa → List Pack → Operand → List ℕ → Recipe
shuffled ds ssa plan o [] = recipe.Inserts
shuffled ds ssa plan o (d ∷ numbers) =
    let least = first_least (λ n. (description_in ds n).cost) d numbers in
    recipe.Shuffle least (packs_of ds ssa plan o (description_in ds least))

-- The recipe of an operand, the first of these that there is: the register of the first pack that
-- holds it, the constants where it wants no value, the shuffle of least cost, inserts.
abbrev pub recipe_of : List Description → Ssa → List Pack → Operand → Recipe
recipe_of ds ssa plan o =
    if list_any (λ p. holds ds ssa p o) plan then recipe.Reuse (holder ds ssa plan o)
    else if is_constant o then recipe.Constant (constant_bytes o)
    else shuffled ds ssa plan o (ready_from ds ssa plan o 0 ds)

-- the recipes of the operands of packs, in the order in which the packs take them
abbrev pub recipes_of : List Description → List Match → Ssa → List Pack → List Recipe
recipes_of ds matches ssa packs = map (recipe_of ds ssa packs) (operands_in ds matches ssa packs)

-- ---- what is emitted by them

-- what the lines of a plan are emitted from
abbrev pub planned_job : List Description → List Match → Ssa → List Pack → Job
planned_job ds matches ssa plan = job_of ds matches ssa plan (recipes_of ds matches ssa plan)

abbrev pub planned_program : List Description → List Match → Ssa → List Pack → List Node → Program
planned_program ds matches ssa plan order =
    program_of ds matches ssa plan (recipes_of ds matches ssa plan) order
