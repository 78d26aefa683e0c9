use Rattle.vg_order.proofs.AllDependences.{dependences-give_orders}
use Rattle.vg_order.proofs.law.dependences_give_orders.Goals as goal

pub returns : goal.returns
returns c = dependences-give_orders
