use Rattle.std.proofs.Common.{◌++◌, ◌∙◌, None, ap}
use Rattle.std.proofs.lemmas.List.{get_or_default}
use Rattle.vg_order.proofs.Building.{lanes-more}
use Rattle.vg_order.proofs.graph.call_units.Goals as goal

pub lanes-preserved : goal.lanes-preserved
lanes-preserved c =
    lanes-more c.args.table.now c.args.first c.args.end c.args.description c.lanes.lane c.args.lanes.now _ c.lane_bounds-bounds.result.now
    c.lanes.units.items c.in_ok-more.more.items c.extend_from_slice.new.self.items _
    c.lanes-test.true (get_or_default c.args.lanes.now c.lanes.lane None _ c.lanes-test.true) c.lane_bounds-bounds.ensures c.in_ok-more.ensures
    (c.in_ok-extend_from_slice.ensures.items ∙ ap (λ l. c.lanes.units.items ++ l) c.as_slice.ensures.value) c.lanes.invariant
