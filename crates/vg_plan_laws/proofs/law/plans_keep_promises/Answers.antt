use Rattle.vg_plan_laws.proofs.Keeping.{plans-keep}
use Rattle.vg_plan_laws.proofs.law.plans_keep_promises.Goals as goal

pub returns : goal.returns
returns c = plans-keep
