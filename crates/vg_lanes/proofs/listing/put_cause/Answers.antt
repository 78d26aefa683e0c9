use Rattle.std.proofs.Common.{◌++◌, ap, ◌∙◌}
use Rattle.vg_lanes.specs.Cause.{cause_name}
use Rattle.vg_lanes.specs.Listing.{newline}
use Rattle.vg_lanes.proofs.Lanes.{put-lines}
use Rattle.vg_lanes.proofs.listing.put_cause.Goals as goal

pub returns : goal.returns
returns c =
    c.in_ok-extend_from_slice-3.ensures.items
    ∙ put-lines c.args.to.now.items _ _ _ (cause_name c.args.cause) newline c.in_ok-extend_from_slice.ensures.items
    (c.in_ok-extend_from_slice-2.ensures.items ∙ ap (λ r. c.extend_from_slice.new.self.items ++ r) c.name.ensures)
