use Rattle.std.proofs.Common.{◌≤◌, map}
use Rattle.std.specs.Prelude.{slice_index}
use Rattle.vg_paired.specs.ByteLabels.{label_of}
use Rattle.vg_paired.specs.Sweeps.{PutsBefore}
use Rattle.vg_paired.proofs.turned.put_all.Given as goal

abbrev pub invariant-events : goal.invariant-events
invariant-events l = (l.first ≤ l.left) × (l.left ≤ l.last) × PutsBefore (map label_of l.labels) (slice_index l.lines) l.left l.last l.initial.rows l.rows

abbrev pub decreases-events : goal.decreases-events
decreases-events l = l.left
