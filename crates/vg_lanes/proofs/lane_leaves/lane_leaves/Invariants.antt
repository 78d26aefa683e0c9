use Rattle.std.proofs.Common.{◌≡◌, take}
use Rattle.std.specs.Prelude.{flat_map}
use Rattle.vg_shapes.specs.Lane.{lane_of}
use Rattle.vg_shapes.specs.Leaves.{leaves}
use Rattle.vg_lanes.specs.Described.{term_of}
use Rattle.vg_lanes.proofs.lane_leaves.lane_leaves.Given as goal

abbrev pub invariant-lanes : goal.invariant-lanes
invariant-lanes l =
    l.found.items ≡ flat_map (λ x. flat_map leaves (term_of (lane_of x))) (take l.lane-index l.lanes)
