use Rattle.vg_order.proofs.Cycles.{orders-have_no_cycle}
use Rattle.vg_order.proofs.law.orders_have_no_cycle.Goals as goal

pub returns : goal.returns
returns c = orders-have_no_cycle
