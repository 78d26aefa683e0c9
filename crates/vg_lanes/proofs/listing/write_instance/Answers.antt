use Rattle.std.proofs.Common.{◌≡◌, ◌++◌, ap, ◌∙◌, subst, map}
use Rattle.std.specs.Prelude.{OnOk}
use Rattle.vg_shapes.specs.Lane.{lane_of}
use Rattle.vg_lanes.specs.Described.{cause_of}
use Rattle.vg_lanes.specs.Listing.{first_line, lane_lines, last_line}
use Rattle.vg_lanes.proofs.Lanes.{formed-lanes, listed-by, put-lines}
use Rattle.vg_lanes.proofs.listing.write_instance.Goals as goal

pub canonical_lanes-requires : goal.canonical_lanes-requires
canonical_lanes-requires c = formed-lanes c.args.header.now c.args.lanes.items c.requires.each

pub returns : goal.returns
returns c =
    let header = c.args.header.now in
    let forms = c.in_ok-forms.forms.items in
    let names = c.in_ok-names.names in
    let lanes = lane_lines names 0 (map lane_of forms) in
    let same : c.as_slice-2.result.now ≡ forms = c.as_slice-2.ensures.value in
    subst (λ r. OnOk c.put_last_line.result (c.put_last_line.new.to.items ≡ r))
    (put-lines c.args.to.now.items (first_line header c.args.imm) _ _ lanes (last_line c.in_ok-cause.cause) c.in_ok-put_first_line.ensures
    (c.in_ok-put_lane_lines.ensures ∙ ap (λ fs. c.put_first_line.new.to.items ++ lane_lines names 0 (map lane_of fs)) same)
    ∙ listed-by c.args.to.now.items header c.args.imm c.args.lanes.items forms names c.in_ok-cause.cause c.in_ok-forms.ensures c.in_ok-names.ensures
    (c.in_ok-cause.ensures ∙ ap (λ fs. cause_of (map lane_of fs)) c.as_slice.ensures.value))
    c.put_last_line.ensures
