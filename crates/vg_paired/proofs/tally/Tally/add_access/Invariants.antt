use Rattle.vg_paired.specs.Tallies.{Adds}
use Rattle.vg_events.specs.Events.{labels_from}
use Rattle.vg_paired.proofs.tally.Tally.add_access.Given as goal

abbrev pub invariant-bytes : goal.invariant-bytes
invariant-bytes l = Adds l.initial.self l.self (labels_from l.access.writes l.access.address l.byte)
