use Rattle.vg_plan_laws.proofs.Programs.{programs-mean}
use Rattle.vg_plan_laws.proofs.law.programs_of_plans_mean_their_units.Goals as goal

pub returns : goal.returns
returns c = programs-mean
