use Rattle.std.specs.Int.{w128}
use Rattle.std.proofs.lemmas.Int.{to_z-of_z}
use Rattle.vg_interval.proofs.Fitting.{fit-at, difference_is}
use Rattle.vg_interval.proofs.exact.difference.Goals as goal

pub returns : goal.returns
returns c = fit-at _ _ _ (rw (to_z-of_z w128 c.args.x c.ranges.x, to_z-of_z w128 c.args.y c.ranges.y) (difference_is c.args.x c.args.y)) c.checked_sub.ensures
