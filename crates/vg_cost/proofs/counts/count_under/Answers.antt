use Rattle.std.proofs.Common.{◌∙◌, sym}
use Rattle.vg_cost.proofs.Moving.{counted_none, counted_over}
use Rattle.vg_cost.proofs.counts.count_under.Goals as goal

pub returns-then-value-number : goal.returns-then-value-number
returns-then-value-number c =
    rw (sym c.value_of.ensures ∙ c.in-Some.is)
    (counted_over c.args.more c.in-Some.value c.args.number c.args.counts.now c.args.changed.now c.if-value-number.true)

pub returns-in-None : goal.returns-in-None
returns-in-None c = rw (sym c.value_of.ensures ∙ c.in-None.is) (counted_none c.args.more c.args.counts.now c.args.changed.now)
