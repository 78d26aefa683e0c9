use Rattle.vg_plans.proofs.Reach.{no-cycle-behind}
use Rattle.vg_plans.proofs.law.others_are_no_cycles.Goals as goal

pub returns : goal.returns
returns c w plan p reached n a f = no-cycle-behind w plan p reached n a f
