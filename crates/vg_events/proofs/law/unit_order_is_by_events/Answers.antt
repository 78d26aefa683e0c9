use Rattle.vg_events.proofs.UnitOrder.{unit-order-is-by-events}
use Rattle.vg_events.proofs.law.unit_order_is_by_events.Goals as goal

pub returns : goal.returns
returns c = unit-order-is-by-events
