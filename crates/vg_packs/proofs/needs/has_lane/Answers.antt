use Rattle.std.proofs.Common.{◌∙◌}
use Rattle.vg_packs.proofs.NodeUnits.{lanes_any}
use Rattle.vg_packs.proofs.needs.has_lane.Goals as goal

pub returns : goal.returns
returns c = c.is_some_lane.ensures ∙ lanes_any c.args.number c.args.lanes.now
