-- What the packs of plans span.
use Rattle.std.specs.Prelude.{◌≡◌, ℕ, ◌+◌, List, length}
use Rattle.vg_shapes.specs.declared.match_table.Match.{Match}
use Rattle.vg_shapes.specs.declared.pack.Pack.{Pack}
use Rattle.vg_shapes.specs.declared.ssa.Ssa.{Ssa}
use Rattle.vg_shapes.specs.Units.{arguments}
use Rattle.vg_packs.specs.declared.plan_spans.PlanSpans.{PlanSpans}
use Rattle.vg_packs.specs.Floor.{MarksSpans}

-- of all numbers up to those of the last units, each beside which some pack of the plan does not lie is marked
pub record SpansPlan (matches : List Match) (ssa : Ssa) (deps : List (ℕ × ℕ)) (plan : List Pack) (s : PlanSpans) : Type 0 where
  pub long : length s.spanned.items ≡ arguments ssa + length ssa.units
  pub spans : MarksSpans matches ssa deps plan s.spanned.items
