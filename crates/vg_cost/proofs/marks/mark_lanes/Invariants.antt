use Rattle.std.proofs.Common.{take}
use Rattle.std.specs.Prelude.{filter_map}
use Rattle.vg_cost.specs.Marks.{Marked}
use Rattle.vg_cost.proofs.marks.mark_lanes.Given as goal

abbrev pub invariant-lanes : goal.invariant-lanes
invariant-lanes l = Marked (filter_map (λ v. v) (take l.lane-index l.lanes)) l.fn.marks l.marks
