use Rattle.vg_gather.proofs.Held.{holders-fill}
use Rattle.vg_gather.proofs.law.holders_fill.Goals as goal

pub returns : goal.returns
returns c = holders-fill
