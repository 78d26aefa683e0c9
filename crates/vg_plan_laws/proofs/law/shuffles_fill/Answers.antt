use Rattle.vg_plan_laws.proofs.Keeping.{shuffles-fill}
use Rattle.vg_plan_laws.proofs.law.shuffles_fill.Goals as goal

pub returns : goal.returns
returns c = shuffles-fill
