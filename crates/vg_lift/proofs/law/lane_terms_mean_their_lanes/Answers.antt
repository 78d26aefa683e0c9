use Rattle.vg_lift.proofs.Lanes.{lane-terms-mean-their-lanes}
use Rattle.vg_lift.proofs.law.lane_terms_mean_their_lanes.Goals as goal

pub returns : goal.returns
returns c = lane-terms-mean-their-lanes
