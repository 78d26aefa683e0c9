use Rattle.std.proofs.Common.{◌≡◌, ◌++◌, map, drop}
use Rattle.vg_terms.specs.Term.{tree}
use Rattle.vg_match.specs.LaneList.{all_lanes}
use Rattle.vg_match.proofs.lane_list.lanes_of.Given as goal

abbrev pub invariant-loop-number : goal.invariant-loop-number
invariant-loop-number l = l.all.items ++ all_lanes l.number (map (λ d. map tree d.lanes) (drop l.number l.descriptions)) ≡ all_lanes 0 (map (λ d. map tree d.lanes) l.descriptions)
