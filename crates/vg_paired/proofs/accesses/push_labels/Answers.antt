use Rattle.std.proofs.Common.{◌≡◌, ◌++◌, ap, arith, map, ◌∙◌}
use Rattle.vg_paired.specs.ByteLabels.{label_of}
use Rattle.vg_events.specs.Events.{labels_from}
use Rattle.vg_paired.proofs.Counts.{labels-turn}
use Rattle.vg_paired.proofs.accesses.push_labels.Goals as goal

pub bytes-preserved : goal.bytes-preserved
bytes-preserved c =
    labels-turn c.args.all.now.items c.bytes.all.items c.push.new.self.items c.args.access.writes c.args.access.address c.bytes.byte c.of.result
    c.bytes.invariant (ap label_of c.of.ensures) c.in_ok-push.ensures.items

pub returns : goal.returns
returns c =
    let e : c.bytes.byte ≡ c.args.access.size = omega arith in
    c.bytes.invariant ∙ ap (λ n. map label_of c.args.all.now.items ++ labels_from c.args.access.writes c.args.access.address n) e
