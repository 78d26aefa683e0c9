use Rattle.vg_interval.proofs.Fitting.{all_low}
use Rattle.vg_interval.proofs.whole_numbers.low_part.Goals as goal

pub returns-else-width-lt128 : goal.returns-else-width-lt128
returns-else-width-lt128 c = all_low c.args.width c.args.bits c.ranges.bits.fits c.if-width-lt128.false
