use Rattle.std.proofs.Common.{◌≡◌, ◌++◌, drop, map}
use Rattle.vg_shapes.specs.Description.{description_of}
use Rattle.vg_cost.specs.Shuffling.{shuffles_from}
use Rattle.vg_cost.proofs.shuffles.shuffle_numbers.Given as goal

abbrev pub invariant-descriptions : goal.invariant-descriptions
invariant-descriptions l = record {
  number : l.number ≡ l.description-index;
  numbers : l.numbers.items ++ shuffles_from l.description-index (map description_of (drop l.description-index l.descriptions)) ≡ shuffles_from 0 (map description_of l.descriptions);
}
