use Rattle.std.proofs.Common.{length}
use Rattle.vg_cost_cases.proofs.plans.+are_near.Given as goal

abbrev pub decreases-are_near : goal.decreases-are_near
decreases-are_near l = length l.bounds.now
