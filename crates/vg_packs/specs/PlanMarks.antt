-- Marks of the units of plans.
use Rattle.std.specs.Prelude.{◌+◌, List, length}
use Rattle.vg_shapes.specs.declared.pack.Pack.{Pack}
use Rattle.vg_shapes.specs.declared.ssa.Ssa.{Ssa}
use Rattle.vg_shapes.specs.Units.{arguments}
use Rattle.vg_packs.specs.declared.plan_marks.PlanMarks.{PlanMarks}
use Rattle.vg_packs.specs.Marks.{AreMarks}
use Rattle.vg_packs.specs.Walk.{is_in_plan}

-- of all numbers up to those of the last units, the units of the plan are marked
abbrev pub MarksPlan : Ssa → List Pack → PlanMarks → Type 0
MarksPlan ssa plan m = AreMarks (arguments ssa + length ssa.units) (is_in_plan plan) m.marks.items
