use Rattle.vg_order_laws.proofs.Commuting.{units-commute}
use Rattle.vg_order_laws.proofs.law.units_commute.Goals as goal

pub returns : goal.returns
returns c = units-commute
