use Rattle.vg_kernel_plans.proofs.FedPlans.{hold-by}
use Rattle.vg_kernel_plans.proofs.law.plans_hold_by_choice.Goals as goal

pub returns : goal.returns
returns c choice ds matches ssa deps = hold-by ds matches ssa deps choice
