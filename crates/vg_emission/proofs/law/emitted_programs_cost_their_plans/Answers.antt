use Rattle.vg_emission.proofs.PlanTotals.{emitted-costs-the-plan}
use Rattle.vg_emission.proofs.law.emitted_programs_cost_their_plans.Goals as goal

pub returns : goal.returns
returns c = emitted-costs-the-plan
