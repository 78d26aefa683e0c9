use Rattle.vg_gather.proofs.Inserts.{constants-fill}
use Rattle.vg_gather.proofs.law.constants_fill.Goals as goal

pub returns : goal.returns
returns c = constants-fill
