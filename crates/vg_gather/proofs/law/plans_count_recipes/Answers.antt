use Rattle.vg_gather.proofs.Jobs.{plans-count-recipes}
use Rattle.vg_gather.proofs.law.plans_count_recipes.Goals as goal

pub returns : goal.returns
returns c = plans-count-recipes
