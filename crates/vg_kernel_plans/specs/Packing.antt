-- The packs of a kernel: over them stand plans, their costs, the plain and the chosen plan.
use Rattle.std.specs.Prelude.{ℕ, ◌+◌, ◌*◌, List, [], ◌∷◌, length, filter, Option, Some, None, slice_get, nat_le, if◌then◌else◌}
use Rattle.std.specs.List.{filter_map, flat_map}
use Rattle.std.specs.Option.{is_some, option_map_or}
use Rattle.vg_plans.specs.Levels.{chosen}
use Rattle.vg_plans.specs.PlainPlan.{plain_plan}
use Rattle.vg_plans.specs.World.{follows, plan_cost, same_packs, World}
use Rattle.vg_shapes.specs.declared.match_table.Match.{Match}
use Rattle.vg_shapes.specs.declared.operand.Operand.{Operand}
use Rattle.vg_shapes.specs.declared.pack.Pack.{Pack}
use Rattle.vg_shapes.specs.declared.pack.Pack.TheVariants.{Stores, Loads, Call}
use Rattle.vg_shapes.specs.declared.ssa.Ssa.{Ssa}
use Rattle.vg_shapes.specs.declared.ssa_unit.SsaUnit.{SsaUnit}
use Rattle.vg_shapes.specs.declared.ssa_unit.SsaUnit.TheVariants.{Load, Store, Operation}
use Rattle.vg_shapes.specs.DepList.{row_of}
use Rattle.vg_shapes.specs.Depends.{numbers_below}
use Rattle.vg_shapes.specs.Description.{Description}
use Rattle.vg_shapes.specs.Layout.{access_at}
use Rattle.vg_shapes.specs.Pack.{bounds_from, units_of}
use Rattle.vg_shapes.specs.Units.{arguments, is_unit, unit_at}
use Rattle.vg_kernel_plans.specs.Groups.{store_groups}
use Rattle.vg_kernel_plans.specs.Held.{holds}
use Rattle.vg_kernel_plans.specs.Producers.{producers}
use Rattle.vg_kernel_plans.specs.SameAs.{same_operand, same_pack}
use Rattle.vg_kernel_plans.specs.Shuffles.{shuffles}
use Rattle.vg_kernel_plans.specs.Taken.{operands_of}
use Rattle.vg_kernel_plans.specs.Wants.{is_constant, value_of, wanted_values}

-- the values that a unit uses
abbrev pub used_by : Option SsaUnit → List ℕ
used_by None = []
used_by (Some (Load a w)) = []
used_by (Some (Store a w x)) = filter_map value_of (x ∷ [])
used_by (Some (Operation op w k xs)) =
    filter_map value_of (xs.first ∷ xs.second ∷ xs.third ∷ [])

-- the units on which a pack depends, by a list of dependences: a call on those among its bound values,
-- another pack on what its units depend on
abbrev pub needs_of : List Match → Ssa → List (ℕ × ℕ) → Pack → List ℕ
needs_of matches ssa deps (Stores us) = flat_map (row_of deps) us
needs_of matches ssa deps (Loads us) = flat_map (row_of deps) us
needs_of matches ssa deps (Call d lanes) =
    filter (is_unit ssa) (filter_map (λ b. value_of b.wanted) (bounds_from matches d 0 lanes))

-- what the line of a pack costs
abbrev pub price_of : List Description → Pack → ℕ
price_of ds (Stores us) = 1
price_of ds (Loads us) = 1
price_of ds (Call d lanes) = option_map_or (λ e. e.cost) (slice_get ds d) 0

-- the numbers of all units, falling
abbrev pub falling_units : Ssa → List ℕ
falling_units ssa = filter (is_unit ssa) (numbers_below (arguments ssa + length ssa.units))

abbrev pub packing : List Description → List Match → Ssa → List (ℕ × ℕ) → World Pack Operand Operand
packing ds matches ssa deps = record {
  same_pack = same_pack;
  same_operand = same_operand;
  groups = store_groups ssa;
  units_of = units_of;
  needs_of = needs_of matches ssa deps;
  operands_of = operands_of ds matches ssa;
  producers = producers ds matches ssa;
  feeders = λ o. [];
  holds = holds ds ssa;
  price = price_of ds;
  is_constant = is_constant;
  values_of = wanted_values;
  shuffles = shuffles ds;
  gives = holds ds ssa;
  units = falling_units ssa;
  depends_of = row_of deps;
  uses_of = λ v. used_by (unit_at ssa v);
  is_access = λ v. is_some (access_at ssa v);
}

-- no plan has more packs than there are units, and an operand of a pack is looked at once
abbrev pub plain_of : List Description → List Match → Ssa → List (ℕ × ℕ) → List Pack
plain_of ds matches ssa deps = plain_plan (packing ds matches ssa deps) (2 * length ssa.units)

-- kernels of more units are not searched
abbrev pub sizes_of : Ssa → ℕ
sizes_of ssa = if nat_le (length ssa.units) 256 then length ssa.units else 0

-- the chosen plan, where the search keeps so many plans of each size
abbrev pub chosen_of : List Description → List Match → Ssa → List (ℕ × ℕ) → ℕ → List Pack
chosen_of ds matches ssa deps width =
    let w = packing ds matches ssa deps in
    chosen (follows w) (same_packs w) (plan_cost w) width (sizes_of ssa) (plain_of ds matches ssa deps)
