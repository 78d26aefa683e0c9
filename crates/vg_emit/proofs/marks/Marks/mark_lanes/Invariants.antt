use Rattle.std.proofs.Common.{◌≡◌, drop}
use Rattle.std.specs.List.{filter_map}
use Rattle.vg_emit.specs.Marks.{marked}
use Rattle.vg_emit.proofs.marks.Marks.mark_lanes.Given as goal

abbrev pub invariant-lanes : goal.invariant-lanes
invariant-lanes l =
    marked l.self (filter_map (λ v. v) (drop l.lane-index l.lanes))
    ≡ marked l.fn.self (filter_map (λ v. v) l.lanes)
