use Rattle.std.proofs.Common.{rules}
use Rattle.std.specs.Prelude.{not}
use Rattle.std.proofs.lemmas.List.Sorted.{IsPartitionPoint-from_clause}
use Rattle.vg_shapes.proofs.MatchTables.{front-kept}
use Rattle.vg_match.specs.declared.lane_list.LaneAt.{LaneAt}
use Rattle.vg_match.specs.LaneList.{is_before}
use Rattle.vg_match.proofs.Roots.{front-not_behind, lane_with}
use Rattle.vg_match.proofs.lane_list.up_to.Goals as goal

pub returns : goal.returns
returns c =
    let e = lane_with c.args.root in
    let kept = λ (x : LaneAt). not (is_before e x) in
    let point = c.partition_point-place in
    let split = IsPartitionPoint-from_clause kept c.args.lanes.now point.result point.ensures.partitioned (front-not_behind e c.args.lanes.now c.requires) (λ a r f called. search rules) in
    front-kept kept c.args.lanes.now point.result split.0 split.1 point.ensures.bound
