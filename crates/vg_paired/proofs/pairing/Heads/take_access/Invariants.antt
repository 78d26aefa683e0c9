use Rattle.vg_events.specs.Events.{labels_from}
use Rattle.vg_paired.specs.Heads.{Pairs}
use Rattle.vg_paired.proofs.pairing.Heads.take_access.Given as goal

abbrev pub invariant-bytes : goal.invariant-bytes
invariant-bytes l = Pairs l.initial.self l.self (labels_from l.access.writes l.access.address l.byte) l.events.items
