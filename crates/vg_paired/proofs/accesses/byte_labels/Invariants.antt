use Rattle.std.proofs.Common.{◌≡◌, map, take}
use Rattle.vg_paired.specs.ByteLabels.{label_of}
use Rattle.vg_events.specs.Events.{labels}
use Rattle.vg_paired.proofs.accesses.byte_labels.Given as goal

abbrev pub invariant-accesses : goal.invariant-accesses
invariant-accesses l = map label_of l.all.items ≡ labels (take l.access-index l.accesses)
