use Rattle.vg_plan_laws.proofs.Programs.{programs-keep-rules}
use Rattle.vg_plan_laws.proofs.law.programs_of_plans_keep_the_rules.Goals as goal

pub returns : goal.returns
returns c = programs-keep-rules
