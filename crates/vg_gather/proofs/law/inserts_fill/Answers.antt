use Rattle.vg_gather.proofs.Inserts.{inserts-fill}
use Rattle.vg_gather.proofs.law.inserts_fill.Goals as goal

pub returns : goal.returns
returns c = inserts-fill
