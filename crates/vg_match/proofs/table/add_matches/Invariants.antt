use Rattle.std.proofs.Common.{◌≡◌, ◌++◌, drop}
use Rattle.std.specs.List.{filter_map}
use Rattle.vg_match.specs.Table.{lane_trees, match_of}
use Rattle.vg_match.specs.Values.{terms_by}
use Rattle.vg_match.proofs.table.add_matches.Given as goal

abbrev pub invariant-loop-place : goal.invariant-loop-place
invariant-loop-place l =
    l.to.matches.items ++ filter_map (match_of (lane_trees l.descriptions) (terms_by l.values) l.value) (drop l.place-index l.lanes)
    ≡ l.initial.to.matches.items ++ filter_map (match_of (lane_trees l.descriptions) (terms_by l.values) l.value) l.lanes
