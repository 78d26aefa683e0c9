use Rattle.std.proofs.Common.{ap, map, ◌∙◌}
use Rattle.std.proofs.lemmas.List.{take_all}
use Rattle.vg_events.specs.Events.{labels}
use Rattle.vg_paired.specs.ByteLabels.{label_of}
use Rattle.vg_paired.proofs.Counts.{labels-grow}
use Rattle.vg_paired.proofs.accesses.byte_labels.Goals as goal

pub accesses-preserved : goal.accesses-preserved
accesses-preserved c =
    labels-grow (map label_of c.accesses.all.items) (map label_of c.push_any.new.all.items) c.args.accesses.now c.accesses.access-index _ c.accesses-test.true
    c.accesses.invariant c.in_ok-push_any.ensures

pub returns : goal.returns
returns c = c.accesses.invariant ∙ ap labels (take_all c.accesses.access-index c.args.accesses.now c.accesses-test.false)
