use Rattle.std.proofs.Common.{◌≡◌, ◌++◌, map, drop}
use Rattle.vg_terms.specs.Term.{tree}
use Rattle.vg_match.specs.LaneList.{lanes_from}
use Rattle.vg_match.proofs.lane_list.add_lanes.Given as goal

abbrev pub invariant-loop-lane : goal.invariant-loop-lane
invariant-loop-lane l = l.to.items ++ lanes_from l.description l.lane (map tree (drop l.lane l.terms)) ≡ l.initial.to.items ++ lanes_from l.description 0 (map tree l.terms)
