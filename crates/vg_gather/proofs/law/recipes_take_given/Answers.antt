use Rattle.vg_gather.proofs.Takes.{recipes-take-given}
use Rattle.vg_gather.proofs.law.recipes_take_given.Goals as goal

pub returns : goal.returns
returns c = recipes-take-given
