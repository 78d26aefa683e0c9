use Rattle.std.proofs.Common.{take}
use Rattle.vg_paired.specs.Balances.{Takes}
use Rattle.vg_events.specs.Events.{labels}
use Rattle.vg_paired.proofs.balance.Balance.take_all.Given as goal

abbrev pub invariant-accesses : goal.invariant-accesses
invariant-accesses l = Takes l.initial.self l.self (labels (take l.access-index l.accesses))
