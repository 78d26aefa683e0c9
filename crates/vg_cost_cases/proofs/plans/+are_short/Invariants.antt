use Rattle.std.proofs.Common.{length}
use Rattle.vg_cost_cases.proofs.plans.+are_short.Given as goal

abbrev pub decreases-are_short : goal.decreases-are_short
decreases-are_short l = length l.packs.now
