use Rattle.vg_interval.proofs.Fitting.{scaled_zero, scaled_least, scaled_none}
use Rattle.vg_interval.proofs.exact.scaled.Goals as goal

pub returns-then-x-eq0 : goal.returns-then-x-eq0
returns-then-x-eq0 c = scaled_zero c.args.x c.args.places c.ranges.x c.if-places-lt127.false c.requires c.if-x-eq0.true

pub returns-then-x-eqminus1 : goal.returns-then-x-eqminus1
returns-then-x-eqminus1 c =
    scaled_least c.args.x c.args.places c.ranges.x c.if-places-lt127.false c.requires c.if-x-eqminus1.true

pub returns-else-x-eqminus1 : goal.returns-else-x-eqminus1
returns-else-x-eqminus1 c =
    scaled_none c.args.x c.args.places c.if-places-lt127.false c.requires c.if-x-eq0.false c.if-x-eqminus1.false
