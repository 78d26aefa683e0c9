-- What marks of units tell of an operand's values. What is past all marks counts as marked.
use Rattle.std.specs.Prelude.{◌≡◌, Bool, true, false, List, length, get_or}
use Rattle.std.specs.List.{flat_map, list_all, list_any}
use Rattle.vg_shapes.specs.declared.operand.Operand.{Operand}
use Rattle.vg_shapes.specs.declared.pack.Pack.{Pack}
use Rattle.vg_shapes.specs.declared.ssa.Ssa.{Ssa}
use Rattle.vg_shapes.specs.declared.wanted.Wanted.{Wanted}
use Rattle.vg_shapes.specs.declared.wanted.Wanted.TheVariants.{Value, Constant, Nothing}
use Rattle.vg_shapes.specs.Description.{Description}
use Rattle.vg_shapes.specs.Pack.{units_of}
use Rattle.vg_cost.specs.declared.taken.Taken.{Taken}
use Rattle.vg_cost.specs.Marks.{Has}
use Rattle.vg_cost.specs.Taken.{recipe_for}

-- a value that is wanted may be a unit that is marked
abbrev pub may_be_marked : List Bool → Wanted → Bool
may_be_marked marks (Value v) = get_or marks v true
may_be_marked marks (Constant w n) = false
may_be_marked marks Nothing = false

-- one of an operand's values may be
abbrev pub may_use_marked : List Bool → Operand → Bool
may_use_marked marks o = list_any (λ s. may_be_marked marks s.wanted) o.slots

-- what is wanted is no value, or may be a unit that is marked
abbrev pub may_be_given : List Bool → Wanted → Bool
may_be_given marks (Value v) = get_or marks v true
may_be_given marks (Constant w n) = true
may_be_given marks Nothing = true

-- all of an operand's values may be
abbrev pub may_be_all_given : List Bool → Operand → Bool
may_be_all_given marks o = list_all (λ s. may_be_given marks s.wanted) o.slots

-- the units of a plan are marked
abbrev pub MarkUnits : List Pack → List Bool → Type 0
MarkUnits plan marks = Has (length marks) (flat_map units_of plan) marks

-- what is known of an operand is so for the plan, unless by the marks it may be touched
abbrev pub IsKnownBy : List Description → Ssa → List Pack → List Bool → Taken → Type 0
IsKnownBy ds ssa plan own t =
    may_use_marked own t.operand ≡ false → t.recipe ≡ recipe_for ds ssa plan t.operand
