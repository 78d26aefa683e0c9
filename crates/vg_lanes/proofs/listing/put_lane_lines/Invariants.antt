use Rattle.std.proofs.Common.{◌≡◌, ◌+◌, ◌++◌, length, map}
use Rattle.vg_shapes.specs.Lane.{lane_of}
use Rattle.vg_lanes.specs.Listing.{lane_lines}
use Rattle.vg_lanes.proofs.listing.put_lane_lines.Given as goal

abbrev pub invariant-lanes : goal.invariant-lanes
invariant-lanes l =
    (l.to.items ++ lane_lines l.names l.number (map lane_of l.left)
    ≡ l.initial.to.items ++ lane_lines l.names 0 (map lane_of l.lanes))
    × (l.number + length l.left ≡ length l.lanes)

abbrev pub decreases-lanes : goal.decreases-lanes
decreases-lanes l = length l.left
