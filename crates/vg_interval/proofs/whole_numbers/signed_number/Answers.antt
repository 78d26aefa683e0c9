use Rattle.vg_interval.proofs.Fitting.{none_signed, all_signed}
use Rattle.vg_interval.proofs.whole_numbers.signed_number.Goals as goal

pub returns-then-width-eq0 : goal.returns-then-width-eq0
returns-then-width-eq0 c = none_signed c.args.width c.args.bits c.if-width-eq0.true

pub returns-else-width-le128 : goal.returns-else-width-le128
returns-else-width-le128 c = all_signed c.args.width c.args.bits c.ranges.bits.fits c.if-width-le128.false
