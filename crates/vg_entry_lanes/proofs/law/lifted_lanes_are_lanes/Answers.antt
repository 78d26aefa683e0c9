use Rattle.vg_entry_lanes.proofs.Lanes.{are_lanes}
use Rattle.vg_entry_lanes.proofs.law.lifted_lanes_are_lanes.Goals as goal

pub returns : goal.returns
returns c = are_lanes
