use Rattle.std.proofs.Common.{length}
use Rattle.vg_lift.proofs.gather.+gather_from.Given as goal

abbrev pub decreases-gather_from : goal.decreases-gather_from
decreases-gather_from l = length l.bits.now
