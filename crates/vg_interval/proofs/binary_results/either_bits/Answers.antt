use Rattle.vg_interval.proofs.Constants.{either_is}
use Rattle.vg_interval.proofs.binary_results.either_bits.Goals as goal

pub returns : goal.returns
returns c = either_is c.args.x c.args.y c.ranges.x c.ranges.y
