use Rattle.std.proofs.Common.{length}
use Rattle.vg_verify.proofs.call.+push_lanes.Given as goal

abbrev pub decreases-push_lanes : goal.decreases-push_lanes
decreases-push_lanes l = length l.forms.now
