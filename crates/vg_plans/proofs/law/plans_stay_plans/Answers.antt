use Rattle.vg_plans.proofs.Trying.{cost-other, plans-other}
use Rattle.vg_plans.proofs.law.plans_stay_plans.Goals as goal

pub returns : goal.returns
returns c w groups feeders = record {
  costs = λ plan. cost-other w groups feeders plan;
  plans = λ more_groups more_feeders plan m. plans-other w groups feeders more_groups more_feeders plan m;
}
