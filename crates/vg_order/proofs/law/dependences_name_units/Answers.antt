use Rattle.vg_order.proofs.AllDependences.{dependences-name_units}
use Rattle.vg_order.proofs.law.dependences_name_units.Goals as goal

pub returns : goal.returns
returns c = dependences-name_units
