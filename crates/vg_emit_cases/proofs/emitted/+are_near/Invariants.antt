use Rattle.std.proofs.Common.{length}
use Rattle.vg_emit_cases.proofs.emitted.+are_near.Given as goal

abbrev pub decreases-are_near : goal.decreases-are_near
decreases-are_near l = length l.bounds.now
