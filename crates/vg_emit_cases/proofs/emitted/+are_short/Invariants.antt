use Rattle.std.proofs.Common.{length}
use Rattle.vg_emit_cases.proofs.emitted.+are_short.Given as goal

abbrev pub decreases-are_short : goal.decreases-are_short
decreases-are_short l = length l.packs.now
