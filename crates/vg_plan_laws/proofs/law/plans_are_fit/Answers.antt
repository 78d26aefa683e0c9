use Rattle.vg_plan_laws.proofs.Programs.{plans-are-fit}
use Rattle.vg_plan_laws.proofs.law.plans_are_fit.Goals as goal

pub returns : goal.returns
returns c = plans-are-fit
