use Rattle.vg_plan_laws.proofs.Planned.{plans-are-planned}
use Rattle.vg_plan_laws.proofs.law.plans_are_planned.Goals as goal

pub returns : goal.returns
returns c = plans-are-planned
