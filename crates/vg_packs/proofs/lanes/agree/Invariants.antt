use Rattle.std.proofs.Common.{◌≡◌, length}
use Rattle.vg_kernel_plans.specs.Producers.{agree}
use Rattle.vg_packs.proofs.lanes.agree.Given as goal

abbrev pub invariant-slots : goal.invariant-slots
invariant-slots l = agree l.left ≡ agree l.slots

abbrev pub decreases-slots : goal.decreases-slots
decreases-slots l = length l.left
