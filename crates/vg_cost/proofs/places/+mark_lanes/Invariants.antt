use Rattle.std.proofs.Common.{length}
use Rattle.vg_cost.proofs.places.+mark_lanes.Given as goal

abbrev pub decreases-mark_lanes : goal.decreases-mark_lanes
decreases-mark_lanes l = length l.lanes.now
