use Rattle.vg_plan_relations.proofs.SwappedLoads.{swapped-loads}
use Rattle.vg_plan_relations.proofs.law.swapped_loads_are_fed.Goals as goal

pub returns : goal.returns
returns c = swapped-loads
