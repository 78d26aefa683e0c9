use Rattle.vg_order.proofs.OneOrder.{one-order}
use Rattle.vg_order.proofs.law.one_order_is_scheduled.Goals as goal

pub returns : goal.returns
returns c = one-order
