use Rattle.vg_kernel_plans.specs.Fed.{unfed}
use Rattle.vg_kernel_plans.proofs.FedPlans.{may-be-fed}
use Rattle.vg_kernel_plans.proofs.law.plans_may_be_fed.Goals as goal

pub returns : goal.returns
returns c ds matches ssa deps plan m = may-be-fed ds matches ssa deps unfed plan m
