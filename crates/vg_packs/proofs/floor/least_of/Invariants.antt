use Rattle.std.proofs.Common.{take}
use Rattle.vg_packs.specs.Floor.{IsLowest}
use Rattle.vg_packs.proofs.floor.least_of.Given as goal

abbrev pub invariant-numbers : goal.invariant-numbers
invariant-numbers l = IsLowest l.least (take l.number-index l.numbers)
