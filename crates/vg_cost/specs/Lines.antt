-- The lines of units that are written as scalars, by marks.
use Rattle.std.specs.Prelude.{◌≡◌, ℕ, ◌+◌, ◌&&◌, ◌||◌, not, Bool, List, [], Option, Some, None, filter, flat_map, length, if◌then◌else◌}
use Rattle.std.specs.Option.{is_some}
use Rattle.vg_plans.specs.World.{scalar_lines}
use Rattle.vg_shapes.specs.declared.pack.Pack.{Pack}
use Rattle.vg_shapes.specs.declared.ssa.Ssa.{Ssa}
use Rattle.vg_shapes.specs.declared.ssa_unit.SsaUnit.{SsaUnit}
use Rattle.vg_shapes.specs.Depends.{numbers_below}
use Rattle.vg_shapes.specs.Layout.{access_of}
use Rattle.vg_shapes.specs.Pack.{units_of}
use Rattle.vg_shapes.specs.Units.{arguments, is_unit}
use Rattle.vg_kernel_plans.specs.Packing.{falling_units, packing, used_by}
use Rattle.vg_cost.specs.Marks.{Has}

-- a unit is in no pack, and it is an access or its value is needed
abbrev pub is_written : SsaUnit → Bool → Bool → Bool
is_written u packed needed = not packed && (is_some (access_of u) || needed)

-- the values that a unit uses where it is written
abbrev pub values_of : Option SsaUnit → Bool → Bool → List ℕ
values_of None packed needed = []
values_of (Some u) packed needed = if is_written u packed needed then used_by (Some u) else []

-- 1 where a unit is written or its value is extracted
abbrev pub line_of : Option SsaUnit → Bool → Bool → ℕ
line_of None packed needed = 0
line_of (Some u) packed needed =
    if is_written u packed needed then 1 else if packed && needed then 1 else 0

-- so many lines have the units below a number, for all packs and values that have these marks
abbrev pub Lines : Ssa → List Bool → List Bool → ℕ → ℕ → Type 0
Lines ssa packed marks end lines =
    (plan : List Pack) (needed : List ℕ) →
    Has end (flat_map units_of plan) packed → Has end needed marks →
    lines ≡ scalar_lines (packing [] [] ssa []) plan needed (filter (is_unit ssa) (numbers_below end))

-- what a plan costs whose packs and recipes cost so much, for all packs and values that have these marks
abbrev pub Costs : Ssa → List Bool → List Bool → ℕ → ℕ → ℕ → Type 0
Costs ssa packed marks price recipes cost =
    (plan : List Pack) (needed : List ℕ) →
    Has (arguments ssa + length ssa.units) (flat_map units_of plan) packed →
    Has (arguments ssa + length ssa.units) needed marks →
    cost ≡ price + recipes + scalar_lines (packing [] [] ssa []) plan needed (falling_units ssa)
