use Rattle.vg_plan_relations.proofs.TwoSums.{sums-planned}
use Rattle.vg_plan_relations.proofs.law.two_sums_are_planned.Goals as goal

pub returns : goal.returns
returns c = sums-planned
