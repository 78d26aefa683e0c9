use Rattle.std.proofs.Common.{rules, ◌∙◌, sym}
use Rattle.std.specs.List.Sorted.{ties}
use Rattle.std.proofs.lemmas.List.Elements.{filter_agree}
use Rattle.std.proofs.lemmas.List.Sorted.{answers_always}
use Rattle.vg_match.specs.LaneList.{has_root, is_before}
use Rattle.vg_match.proofs.Roots.{before-orders, lane_with, same-root}
use Rattle.vg_match.proofs.lane_list.sort_lanes.Goals as goal

pub returns-clause-sorted : goal.returns-clause-sorted
returns-clause-sorted c = c.in_ok-sort_by.ensures.sorted is_before before-orders (answers_always _ _ _ (λ f a r g called. search rules))

pub returns-clause-groups : goal.returns-clause-groups
returns-clause-groups c r =
    filter_agree (has_root r) (ties is_before (lane_with r)) (same-root r) _
    ∙ c.in_ok-sort_by.ensures.stable is_before before-orders (answers_always _ _ _ (λ f a r g called. search rules)) (lane_with r)
    ∙ sym (filter_agree (has_root r) (ties is_before (lane_with r)) (same-root r) _)
