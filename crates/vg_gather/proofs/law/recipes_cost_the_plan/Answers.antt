use Rattle.vg_gather.proofs.Prices.{recipes-cost-the-plan}
use Rattle.vg_gather.proofs.law.recipes_cost_the_plan.Goals as goal

pub returns : goal.returns
returns c = recipes-cost-the-plan
