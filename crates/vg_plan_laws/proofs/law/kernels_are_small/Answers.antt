use Rattle.vg_plan_laws.proofs.Chosen.{kernels-are-small}
use Rattle.vg_plan_laws.proofs.law.kernels_are_small.Goals as goal

pub returns : goal.returns
returns c = kernels-are-small
