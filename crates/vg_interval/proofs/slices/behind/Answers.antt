use Rattle.vg_interval.proofs.Fitting.{none_behind}
use Rattle.vg_interval.proofs.slices.behind.Goals as goal

pub returns-else-low-lt128 : goal.returns-else-low-lt128
returns-else-low-lt128 c = none_behind c.args.low c.args.n c.ranges.n.fits c.if-low-lt128.false
