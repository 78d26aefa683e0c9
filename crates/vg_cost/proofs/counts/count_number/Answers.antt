use Rattle.vg_cost.proofs.Moving.{counted_one, counted_past}
use Rattle.vg_cost.proofs.counts.count_number.Goals as goal

pub returns-then-place-counts : goal.returns-then-place-counts
returns-then-place-counts c = counted_past c.args.number c.args.counts.now c.args.changed.now c.if-place-counts.true c.args.more

pub returns : goal.returns
returns c =
    counted_one c.args.number c.in_ok-counts.field-0 c.args.counts.now c.args.changed.now c.if-place-counts.false c.requires c.args.more
    c.in_ok-counts.ensures
