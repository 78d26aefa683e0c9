use Rattle.vg_plan_laws.proofs.Planned.{plans-are-made}
use Rattle.vg_plan_laws.proofs.law.plans_are_made.Goals as goal

pub returns : goal.returns
returns c = plans-are-made
