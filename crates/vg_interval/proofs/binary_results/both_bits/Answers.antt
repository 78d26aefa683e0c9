use Rattle.vg_interval.proofs.Constants.{both_is}
use Rattle.vg_interval.proofs.binary_results.both_bits.Goals as goal

pub returns : goal.returns
returns c = both_is c.args.x c.args.y c.ranges.x c.ranges.y
