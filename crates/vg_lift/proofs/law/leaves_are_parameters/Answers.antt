use Rattle.vg_lift.proofs.Inside.{leaves-are-parameters}
use Rattle.vg_lift.proofs.law.leaves_are_parameters.Goals as goal

pub returns : goal.returns
returns c = leaves-are-parameters
