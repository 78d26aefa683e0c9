use Rattle.std.proofs.Common.{length}
use Rattle.vg_emit_cases.proofs.emitted.+all_near.Given as goal

abbrev pub decreases-all_near : goal.decreases-all_near
decreases-all_near l = length l.matches.now
