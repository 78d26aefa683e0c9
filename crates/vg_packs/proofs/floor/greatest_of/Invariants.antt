use Rattle.std.proofs.Common.{take, ◌≤◌}
use Rattle.vg_packs.specs.Floor.{IsHighest}
use Rattle.vg_packs.proofs.floor.greatest_of.Given as goal

abbrev pub invariant-numbers : goal.invariant-numbers
invariant-numbers l = record {
  first : l.fn.first ≤ l.greatest;
  all : IsHighest l.greatest (take l.number-index l.numbers);
}
