use Rattle.vg_events.proofs.UnitOrder.{event-order-is-by-units}
use Rattle.vg_events.proofs.law.event_order_is_by_units.Goals as goal

pub returns : goal.returns
returns c = event-order-is-by-units
