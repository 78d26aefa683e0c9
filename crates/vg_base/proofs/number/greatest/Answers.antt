use Rattle.vg_base.proofs.number.greatest.Goals as goal
use Rattle.vg_base.proofs.LowBits.{ones_of}

pub returns-else-width-eq0 : goal.returns-else-width-eq0
returns-else-width-eq0 c = ones_of c.args.width c.requires
