use Rattle.std.proofs.Common.{length}
use Rattle.vg_verify.proofs.event_bits.EventBits.+push_read.Given as goal

abbrev pub decreases-push_read : goal.decreases-push_read
decreases-push_read l = length l.events.now
