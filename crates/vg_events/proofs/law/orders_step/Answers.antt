use Rattle.vg_events.proofs.Orders.{orders-step}
use Rattle.vg_events.proofs.law.orders_step.Goals as goal

pub returns : goal.returns
returns c = orders-step
