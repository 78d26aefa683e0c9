use Rattle.vg_compile.proofs.OnePlan.{one-chosen-plan}
use Rattle.vg_compile.proofs.law.there_is_one_plan.Goals as goal

pub returns : goal.returns
returns c = one-chosen-plan
