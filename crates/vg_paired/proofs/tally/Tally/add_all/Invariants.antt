use Rattle.std.proofs.Common.{take}
use Rattle.vg_paired.specs.Tallies.{Adds}
use Rattle.vg_events.specs.Events.{labels}
use Rattle.vg_paired.proofs.tally.Tally.add_all.Given as goal

abbrev pub invariant-accesses : goal.invariant-accesses
invariant-accesses l = Adds l.initial.self l.self (labels (take l.access-index l.accesses))
