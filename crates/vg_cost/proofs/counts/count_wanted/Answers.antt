use Rattle.std.proofs.Common.{◌∙◌, sym}
use Rattle.vg_cost.proofs.Moving.{counted_none}
use Rattle.vg_cost.proofs.counts.count_wanted.Goals as goal

pub returns-in-None : goal.returns-in-None
returns-in-None c = rw (sym c.value_of.ensures ∙ c.in-None.is) (counted_none c.args.more c.args.counts.now c.args.changed.now)
