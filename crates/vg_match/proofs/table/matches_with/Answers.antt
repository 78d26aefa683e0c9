use Rattle.std.proofs.Common.{◌++◌, ap, ◌∙◌, arith}
use Rattle.std.specs.Prelude.{filter}
use Rattle.vg_match.specs.LaneList.{all_lanes, has_root}
use Rattle.vg_match.specs.Table.{count_of, lane_trees, value_matches}
use Rattle.vg_match.specs.Values.{terms_by}
use Rattle.vg_match.proofs.Tables.{next-value}
use Rattle.vg_match.proofs.table.matches_with.Goals as goal

pub loop-value-preserved : goal.loop-value-preserved
loop-value-preserved c =
    let lanes = lane_trees c.args.descriptions.now in
    let values = terms_by c.args.values.now in
    next-value lanes values c.sort_lanes.new.lanes.items (all_lanes 0 lanes) c.loop-value.value (count_of values) c.loop-value.found.matches.items c.add_value.new.to.matches.items
    (λ r. c.in_ok-sort_lanes.ensures.groups r ∙ ap (filter (has_root r)) c.in_ok-lanes.ensures)
    (omega (arith, c.loop-value-test.true, c.count-value-end.ensures))
    (c.in_ok-add_value.ensures ∙ ap (λ l. c.loop-value.found.matches.items ++ value_matches lanes values l c.loop-value.value) c.as_slice.ensures.value)
    ∙ c.loop-value.invariant
