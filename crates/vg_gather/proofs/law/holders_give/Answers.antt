use Rattle.vg_gather.proofs.Held.{holders-give}
use Rattle.vg_gather.proofs.law.holders_give.Goals as goal

pub returns : goal.returns
returns c = holders-give
