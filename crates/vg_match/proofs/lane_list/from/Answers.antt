use Rattle.std.proofs.Common.{rules}
use Rattle.std.specs.Prelude.{not}
use Rattle.std.proofs.lemmas.Bool.{not_from_false, not_from_true}
use Rattle.std.proofs.lemmas.List.Sorted.{IsPartitionPoint-from_clause}
use Rattle.vg_shapes.proofs.MatchTables.{behind-kept}
use Rattle.vg_match.specs.declared.lane_list.LaneAt.{LaneAt}
use Rattle.vg_match.specs.LaneList.{is_before}
use Rattle.vg_match.proofs.Roots.{front-before, lane_with}
use Rattle.vg_match.proofs.lane_list.from.Goals as goal

pub returns : goal.returns
returns c =
    let e = lane_with c.args.root in
    let before = λ (x : LaneAt). is_before x e in
    let point = c.partition_point-place in
    let split = IsPartitionPoint-from_clause before c.args.lanes.now point.result point.ensures.partitioned (front-before e c.args.lanes.now c.requires) (λ a r f called. search rules) in
    behind-kept (λ (x : LaneAt). not (is_before x e)) c.args.lanes.now point.result
    (λ k d l b. not_from_true _ (split.0 k d l b)) (λ k d l b. not_from_false _ (split.1 k d l b)) point.ensures.bound
