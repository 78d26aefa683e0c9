use Rattle.vg_gather.proofs.Prices.{recipes-insert-the-plan}
use Rattle.vg_gather.proofs.law.recipes_insert_the_plan.Goals as goal

pub returns : goal.returns
returns c = recipes-insert-the-plan
