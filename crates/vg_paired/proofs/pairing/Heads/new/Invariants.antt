use Rattle.std.proofs.Common.{◌≤◌, length, map}
use Rattle.vg_paired.specs.ByteLabels.{label_of}
use Rattle.vg_paired.specs.Heads.{AreHeadsFrom}
use Rattle.vg_paired.proofs.pairing.Heads.new.Given as goal

abbrev pub invariant-events : goal.invariant-events
invariant-events l = (l.left ≤ length l.labels) × AreHeadsFrom (map label_of l.labels) l.left l.first l.next.items

abbrev pub decreases-events : goal.decreases-events
decreases-events l = l.left
