use Rattle.std.proofs.Common.{length}
use Rattle.vg_lanes.proofs.fitting.+are_fit_lanes.Given as goal

abbrev pub decreases-are_fit_lanes : goal.decreases-are_fit_lanes
decreases-are_fit_lanes l = length l.lanes.now
