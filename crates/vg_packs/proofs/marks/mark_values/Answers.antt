use Rattle.std.specs.List.{filter_map, list_any}
use Rattle.vg_plans.specs.World.{is_in}
use Rattle.vg_packs.specs.Walk.{is_lane_of}
use Rattle.vg_packs.proofs.Marking.{adds-same}
use Rattle.vg_packs.proofs.NodeUnits.{lanes_any}
use Rattle.vg_packs.proofs.marks.mark_values.Goals as goal

pub returns : goal.returns
returns c =
    adds-same (λ v. list_any (is_lane_of v) c.args.lanes.now) (λ v. is_in v (filter_map (λ u. u) c.args.lanes.now))
    c.args.marks.now c.mark_lanes.new.marks (λ v. lanes_any v c.args.lanes.now) c.mark_lanes.ensures
