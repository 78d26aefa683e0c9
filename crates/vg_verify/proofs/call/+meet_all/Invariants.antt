use Rattle.std.proofs.Common.{length}
use Rattle.vg_verify.proofs.call.+meet_all.Given as goal

abbrev pub decreases-meet_all : goal.decreases-meet_all
decreases-meet_all l = length l.terms.now
