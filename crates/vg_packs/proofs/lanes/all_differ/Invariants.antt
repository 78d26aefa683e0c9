use Rattle.std.proofs.Common.{◌≡◌, length}
use Rattle.vg_kernel_plans.specs.Producers.{all_differ}
use Rattle.vg_packs.proofs.lanes.all_differ.Given as goal

abbrev pub invariant-numbers : goal.invariant-numbers
invariant-numbers l = all_differ l.left ≡ all_differ l.numbers

abbrev pub decreases-numbers : goal.decreases-numbers
decreases-numbers l = length l.left
