use Rattle.vg_gather.proofs.Jobs.{plans-take-given}
use Rattle.vg_gather.proofs.law.plans_take_given.Goals as goal

pub returns : goal.returns
returns c = plans-take-given
