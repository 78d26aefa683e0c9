use Rattle.std.proofs.Common.{length}
use Rattle.vg_cost_cases.proofs.plans.+all_near.Given as goal

abbrev pub decreases-all_near : goal.decreases-all_near
decreases-all_near l = length l.matches.now
