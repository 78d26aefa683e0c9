use Rattle.vg_kernel_plans.proofs.FedPlans.{fed-fits}
use Rattle.vg_kernel_plans.proofs.law.chosen_fed_plans_fit.Goals as goal

pub returns : goal.returns
returns c ds matches ssa deps width = fed-fits ds matches ssa deps width
