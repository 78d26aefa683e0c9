use Rattle.std.proofs.Common.{take}
use Rattle.vg_paired.specs.Heads.{PairsAll}
use Rattle.vg_paired.proofs.pairing.Heads.take_all.Given as goal

abbrev pub invariant-accesses : goal.invariant-accesses
invariant-accesses l = PairsAll l.initial.self l.self (take l.access-index l.accesses) l.pairs.items
