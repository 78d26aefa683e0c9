use Rattle.std.proofs.Common.{◌≡◌, ◌++◌, map}
use Rattle.vg_paired.specs.ByteLabels.{label_of}
use Rattle.vg_events.specs.Events.{labels_from}
use Rattle.vg_paired.proofs.accesses.push_labels.Given as goal

abbrev pub invariant-bytes : goal.invariant-bytes
invariant-bytes l = map label_of l.all.items ≡ map label_of l.initial.all.items ++ labels_from l.access.writes l.access.address l.byte
