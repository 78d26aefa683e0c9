use Rattle.vg_plan_laws.proofs.Programs.{programs-cost}
use Rattle.vg_plan_laws.proofs.law.programs_of_plans_cost_their_plans.Goals as goal

pub returns : goal.returns
returns c = programs-cost
