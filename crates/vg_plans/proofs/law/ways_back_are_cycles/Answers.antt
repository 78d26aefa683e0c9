use Rattle.vg_plans.proofs.Reach.{cycle-behind}
use Rattle.vg_plans.proofs.law.ways_back_are_cycles.Goals as goal

pub returns : goal.returns
returns c w plan p first n r = cycle-behind w plan p first n r
