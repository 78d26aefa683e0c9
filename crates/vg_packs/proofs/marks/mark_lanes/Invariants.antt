use Rattle.std.proofs.Common.{take}
use Rattle.std.specs.List.{list_any}
use Rattle.vg_packs.specs.Walk.{is_lane_of}
use Rattle.vg_packs.specs.Marks.{AddsMarks}
use Rattle.vg_packs.proofs.marks.mark_lanes.Given as goal

abbrev pub invariant-lanes : goal.invariant-lanes
invariant-lanes l = AddsMarks (λ v. list_any (is_lane_of v) (take l.lane-index l.lanes)) l.fn.marks l.marks
