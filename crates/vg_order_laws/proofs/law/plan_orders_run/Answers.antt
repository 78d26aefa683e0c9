use Rattle.vg_order_laws.proofs.Plans.{plan-orders-run}
use Rattle.vg_order_laws.proofs.law.plan_orders_run.Goals as goal

pub returns : goal.returns
returns c = plan-orders-run
