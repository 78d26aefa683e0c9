use Rattle.vg_ssa.proofs.Earlier.{units-take_earlier}
use Rattle.vg_ssa.proofs.law.units_take_earlier_values.Goals as goal

pub returns : goal.returns
returns c = units-take_earlier
