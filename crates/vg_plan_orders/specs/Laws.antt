-- Plans have orders.
use Rattle.std.specs.Prelude.{ℕ, List}
use Rattle.vg_shapes.specs.declared.match_table.Match.{Match}
use Rattle.vg_shapes.specs.declared.order.Node.{Node}
use Rattle.vg_shapes.specs.declared.pack.Pack.{Pack}
use Rattle.vg_shapes.specs.declared.ssa.Ssa.{Ssa}
use Rattle.vg_shapes.specs.Description.{Description}
use Rattle.vg_kernel_plans.specs.Fed.{IsFedPlanFor}
use Rattle.vg_order.specs.ByList.{IsCycleBy, NameLesser, NameUnits}

-- The nodes of a plan have no cycle, also where load groups feed operands, by a list of dependences
-- that names units, and for each unit lesser ones alone.
abbrev pub PlansHaveNoCycle : Type 0
PlansHaveNoCycle =
    (ds : List Description) (matches : List Match) (ssa : Ssa) (deps : List (ℕ × ℕ))
    (plan : List Pack) (cycle : List Node) →
    NameUnits ssa deps → NameLesser deps → IsFedPlanFor ds matches ssa deps plan →
    IsCycleBy deps ssa matches plan cycle → ⊥
