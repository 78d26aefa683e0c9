use Rattle.vg_plans.proofs.Optimal.{optimal}
use Rattle.vg_plans.proofs.law.chosen_is_optimal.Goals as goal

pub returns : goal.returns
returns c follows same cost = optimal follows same cost
