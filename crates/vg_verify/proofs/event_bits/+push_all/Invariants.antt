use Rattle.std.proofs.Common.{length}
use Rattle.vg_verify.proofs.event_bits.+push_all.Given as goal

abbrev pub decreases-push_all : goal.decreases-push_all
decreases-push_all l = length l.runs.now
