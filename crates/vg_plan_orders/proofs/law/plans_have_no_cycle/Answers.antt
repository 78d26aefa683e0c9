use Rattle.vg_plan_orders.proofs.Cycles.{plans-have-no-cycle}
use Rattle.vg_plan_orders.proofs.law.plans_have_no_cycle.Goals as goal

pub returns : goal.returns
returns c = plans-have-no-cycle
