use Rattle.vg_plan_laws.proofs.Programs.{programs-call}
use Rattle.vg_plan_laws.proofs.law.programs_of_plans_call_described_instances.Goals as goal

pub returns : goal.returns
returns c = programs-call
