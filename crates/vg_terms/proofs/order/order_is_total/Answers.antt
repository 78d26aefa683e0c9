use Rattle.vg_terms.proofs.order.order_is_total.Goals as goal
use Rattle.vg_terms.proofs.Orders.{order_total}

pub returns : goal.returns
returns c = order_total
