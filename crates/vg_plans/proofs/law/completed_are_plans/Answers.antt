use Rattle.vg_plans.proofs.Completed.{careful-plan, chosen_fed-plan, completed-plan}
use Rattle.vg_plans.proofs.law.completed_are_plans.Goals as goal

pub returns : goal.returns
returns c w turns = record {
  completed = λ plan m. completed-plan w turns plan m;
  careful = careful-plan w turns;
  chosen = λ width sizes. chosen_fed-plan w turns width sizes;
}
