use Rattle.vg_kernel_plans.proofs.FedPlans.{fed-optimal}
use Rattle.vg_kernel_plans.proofs.law.chosen_fed_plans_are_optimal.Goals as goal

pub returns : goal.returns
returns c ds matches ssa deps width plan m short free = fed-optimal ds matches ssa deps width plan m short free
