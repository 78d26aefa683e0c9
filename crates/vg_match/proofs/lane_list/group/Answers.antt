use Rattle.std.proofs.Common.{sym, subst, ap, ◌∙◌}
use Rattle.std.specs.Prelude.{not, filter}
use Rattle.std.proofs.lemmas.List.Kept.{IsSortedBy-filter}
use Rattle.vg_shapes.proofs.MatchTables.{filter-twice}
use Rattle.vg_match.specs.declared.lane_list.LaneAt.{LaneAt}
use Rattle.vg_match.specs.LaneList.{has_root, is_before, IsByRoot}
use Rattle.vg_match.proofs.Roots.{before-orders, between, lane_with}
use Rattle.vg_match.proofs.lane_list.group.Goals as goal

pub up_to-requires : goal.up_to-requires
up_to-requires c =
    subst IsByRoot (sym c.from.ensures)
    (IsSortedBy-filter is_before before-orders (λ (x : LaneAt). not (is_before x (lane_with c.args.root))) c.args.lanes.now c.requires)

pub returns : goal.returns
returns c =
    let e = lane_with c.args.root in
    let low = λ (x : LaneAt). not (is_before x e) in
    let high = λ (x : LaneAt). not (is_before e x) in
    c.up_to.ensures ∙ ap (filter high) c.from.ensures
    ∙ filter-twice high low (has_root c.args.root) (between c.args.root) c.args.lanes.now
