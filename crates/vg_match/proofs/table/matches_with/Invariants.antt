use Rattle.std.proofs.Common.{◌≡◌, ◌++◌, ◌-◌}
use Rattle.vg_match.specs.LaneList.{all_lanes}
use Rattle.vg_match.specs.Table.{count_of, lane_trees, matches_from, matches_of}
use Rattle.vg_match.specs.Values.{terms_by}
use Rattle.vg_match.proofs.table.matches_with.Given as goal

abbrev pub invariant-loop-value : goal.invariant-loop-value
invariant-loop-value l =
    l.found.matches.items
    ++ matches_from (lane_trees l.descriptions) (terms_by l.values) (all_lanes 0 (lane_trees l.descriptions)) l.value (count_of (terms_by l.values) - l.value)
    ≡ matches_of (lane_trees l.descriptions) (terms_by l.values)
