use Rattle.std.proofs.Common.{length}
use Rattle.vg_memory.proofs.bytes.+number.Given as goal

abbrev pub decreases-number : goal.decreases-number
decreases-number l = length l.from.now
