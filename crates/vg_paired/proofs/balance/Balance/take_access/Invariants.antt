use Rattle.vg_paired.specs.Balances.{Takes}
use Rattle.vg_events.specs.Events.{labels_from}
use Rattle.vg_paired.proofs.balance.Balance.take_access.Given as goal

abbrev pub invariant-bytes : goal.invariant-bytes
invariant-bytes l = Takes l.initial.self l.self (labels_from l.access.writes l.access.address l.byte)
