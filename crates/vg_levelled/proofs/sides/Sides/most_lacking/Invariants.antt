use Rattle.std.proofs.Common.{◌≡◌}
use Rattle.vg_events.specs.Events.{labels_from}
use Rattle.vg_paired.specs.Tallies.{count_in}
use Rattle.vg_levelled.specs.Levelled.{most_lacking}
use Rattle.vg_levelled.proofs.sides.Sides.most_lacking.Given as goal

abbrev pub invariant-bytes : goal.invariant-bytes
invariant-bytes l =
    l.most ≡ most_lacking (count_in l.self.kernel) (count_in l.self.program)
    (labels_from l.access.writes l.access.address l.byte)
