use Rattle.std.proofs.Common.{sym, ap, ◌∙◌}
use Rattle.vg_match.specs.LaneList.{lanes_like}
use Rattle.vg_match.specs.Table.{lane_trees, match_of}
use Rattle.vg_match.specs.Values.{terms_by}
use Rattle.vg_match.proofs.Merging.{merged, merged-alone, no-lanes}
use Rattle.vg_match.proofs.Tables.{appended-same}
use Rattle.vg_match.proofs.table.add_value.Goals as goal

pub returns-then-is_empty : goal.returns-then-is_empty
returns-then-is_empty c =
    let none = no-lanes c.lanes_like-cut.result.now (sym c.is_empty.ensures ∙ c.if-is_empty.true) in
    let whole = c.lanes_like-whole.ensures ∙ ap (lanes_like c.args.lanes.now) c.term.ensures in
    let cut = sym none ∙ c.lanes_like-cut.ensures ∙ ap (lanes_like c.args.lanes.now) c.cut.ensures in
    appended-same c.add_matches.result (match_of (lane_trees c.args.descriptions.now) (terms_by c.args.values.now) c.args.value)
    c.args.to.now.matches.items c.add_matches.new.to.matches.items _ _
    (sym (merged-alone c.lanes_like-whole.result.now) ∙ (λ i. merged (whole i) (cut i))) c.add_matches.ensures

pub returns : goal.returns
returns c =
    let whole = c.lanes_like-whole.ensures ∙ ap (lanes_like c.args.lanes.now) c.term.ensures in
    let cut = c.lanes_like-cut.ensures ∙ ap (lanes_like c.args.lanes.now) c.cut.ensures in
    appended-same c.add_matches-2.result (match_of (lane_trees c.args.descriptions.now) (terms_by c.args.values.now) c.args.value)
    c.args.to.now.matches.items c.add_matches-2.new.to.matches.items _ _
    (c.as_slice.ensures.value ∙ c.in_ok-near.ensures ∙ (λ i. merged (whole i) (cut i))) c.add_matches-2.ensures
