use Rattle.std.proofs.Common.{◌≡◌, ◌++◌, map}
use Rattle.std.specs.List.{AllByRecursion}
use Rattle.std.specs.Vec.Iter.{into_iter_items}
use Rattle.vg_shapes.specs.Lane.{lane_of}
use Rattle.vg_lanes.specs.Described.{canonical_lane}
use Rattle.vg_lanes.specs.Formed.{IsFormed}
use Rattle.vg_lanes.proofs.canonical_lanes.canonical_lanes.Given as goal

abbrev pub invariant-lanes : goal.invariant-lanes
invariant-lanes l =
    (map lane_of l.forms.items ++ map (λ x. canonical_lane (lane_of x)) (into_iter_items l.lane-iterator)
    ≡ map (λ x. canonical_lane (lane_of x)) (into_iter_items l.initial.lane-iterator))
    × AllByRecursion (λ x. IsFormed (lane_of x)) (into_iter_items l.lane-iterator)
