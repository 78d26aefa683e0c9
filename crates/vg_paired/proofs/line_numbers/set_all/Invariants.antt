use Rattle.std.proofs.Common.{take}
use Rattle.vg_paired.specs.Sweeps.{SetsAll}
use Rattle.vg_paired.proofs.line_numbers.set_all.Given as goal

abbrev pub invariant-events : goal.invariant-events
invariant-events l = SetsAll l.initial.numbers l.numbers (take l.event-index l.events) l.number
