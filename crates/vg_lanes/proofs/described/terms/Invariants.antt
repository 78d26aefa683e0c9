use Rattle.std.proofs.Common.{◌≡◌, ◌++◌, map}
use Rattle.std.specs.Vec.Iter.{into_iter_items}
use Rattle.vg_terms.specs.Term.{tree}
use Rattle.vg_shapes.specs.Lane.{lane_of}
use Rattle.vg_lanes.specs.Described.{terms_of}
use Rattle.vg_lanes.proofs.described.terms.Given as goal

abbrev pub invariant-lanes : goal.invariant-lanes
invariant-lanes l =
    map tree l.found.items ++ terms_of (map lane_of (into_iter_items l.lane-iterator))
    ≡ terms_of (map lane_of (into_iter_items l.initial.lane-iterator))
