use Rattle.vg_plans.proofs.Onto.{onto-distinct}
use Rattle.vg_plans.proofs.law.leaving_out_is_one.Goals as goal

pub returns : goal.returns
returns c same xs = onto-distinct same xs
