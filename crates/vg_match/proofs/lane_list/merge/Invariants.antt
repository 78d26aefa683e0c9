use Rattle.std.proofs.Common.{◌≡◌, ◌+◌, ◌++◌, true, length}
use Rattle.std.specs.Set.{sorted_merge}
use Rattle.vg_match.specs.LaneList.{place_cmp}
use Rattle.vg_match.proofs.lane_list.merge.Given as goal

abbrev pub invariant-lanes : goal.invariant-lanes
invariant-lanes l = l.all.items ++ sorted_merge place_cmp true l.xs l.ys ≡ sorted_merge place_cmp true l.first l.second

abbrev pub decreases-lanes : goal.decreases-lanes
decreases-lanes l = length l.xs + length l.ys
