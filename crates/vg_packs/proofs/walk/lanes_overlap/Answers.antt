use Rattle.std.proofs.Common.{◌∙◌}
use Rattle.vg_packs.specs.Marks.{is_packed_by}
use Rattle.vg_packs.proofs.Cycles.{lanes_in}
use Rattle.vg_packs.proofs.walk.lanes_overlap.Goals as goal

pub returns : goal.returns
returns c = c.some_lane_packed.ensures ∙ lanes_in (is_packed_by c.args.packed.now c.args.plan.now) c.args.lanes.now
