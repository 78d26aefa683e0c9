use Rattle.std.proofs.Common.{arith}
use Rattle.vg_interval.proofs.Fitting.{power_rest, below_half}
use Rattle.vg_interval.proofs.exact.weight.Goals as goal

pub returns-clause-below : goal.returns-clause-below
returns-clause-below c =
    omega (arith, power_rest c.args.places c.requires, below_half c.args.places c.requires)
