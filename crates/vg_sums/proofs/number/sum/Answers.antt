use Rattle.std.proofs.Common.{refl}
use Rattle.std.specs.Int.{w128}
use Rattle.std.proofs.lemmas.Int.{to_z-of_z}
use Rattle.vg_sums.proofs.Whole.{fit-at}
use Rattle.vg_sums.proofs.number.sum.Goals as goal

pub returns : goal.returns
returns c = fit-at _ _ _ (rw (to_z-of_z w128 c.args.x c.ranges.x, to_z-of_z w128 c.args.y c.ranges.y) refl) c.checked_add.ensures
