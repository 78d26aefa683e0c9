use Rattle.vg_cost.proofs.Moving.{counted_none}
use Rattle.vg_cost.proofs.counts.count_used.Goals as goal

pub returns-in-Load : goal.returns-in-Load
returns-in-Load c = rw c.in-Load.is (counted_none c.args.more c.args.counts.now c.args.changed.now)
