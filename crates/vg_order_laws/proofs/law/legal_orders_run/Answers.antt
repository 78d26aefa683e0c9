use Rattle.vg_order_laws.proofs.Legal.{legal-orders-run}
use Rattle.vg_order_laws.proofs.law.legal_orders_run.Goals as goal

pub returns : goal.returns
returns c = legal-orders-run
