use Rattle.std.proofs.Common.{◌∙◌, sym}
use Rattle.std.specs.Prelude.{◌&&◌}
use Rattle.std.specs.List.{list_all}
use Rattle.vg_events.specs.Events.{Label}
use Rattle.vg_paired.specs.ByteLabels.{label_of}
use Rattle.vg_paired.specs.Tallies.{count_in}
use Rattle.vg_levelled.specs.Levelled.{is_common}
use Rattle.vg_levelled.proofs.Bytes.{all-turn, labelled}
use Rattle.vg_levelled.proofs.sides.Sides.are_common.Goals as goal

pub bytes-preserved : goal.bytes-preserved
bytes-preserved c =
    let common = is_common c.args.self.now.met.items (count_in c.args.self.now.kernel)
    (count_in c.args.self.now.program) in
    c.both-all.ensures
    ∙ (λ i. c.bytes.invariant i && (c.is_common.ensures ∙ labelled common c.args.access.writes c.args.access.address
    c.bytes.byte c.of.result c.of.ensures) i)
    ∙ sym (all-turn common c.args.access.writes c.args.access.address c.bytes.byte)
