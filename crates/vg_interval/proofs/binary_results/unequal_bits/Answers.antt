use Rattle.vg_interval.proofs.Constants.{unequal_is}
use Rattle.vg_interval.proofs.binary_results.unequal_bits.Goals as goal

pub returns : goal.returns
returns c = unequal_is c.args.x c.args.y c.ranges.x c.ranges.y
