use Rattle.vg_plan_laws.proofs.Keeping.{recipes-fill}
use Rattle.vg_plan_laws.proofs.law.recipes_fill.Goals as goal

pub returns : goal.returns
returns c = recipes-fill
