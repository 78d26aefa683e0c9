use Rattle.std.proofs.Common.{arith}
use Rattle.vg_sums.proofs.Whole.{below_half, power_rest}
use Rattle.vg_sums.proofs.number.weight.Goals as goal

pub returns-clause-below : goal.returns-clause-below
returns-clause-below c =
    omega (arith, power_rest c.args.places c.requires, below_half c.args.places c.requires)
