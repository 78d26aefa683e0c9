use Rattle.std.proofs.Common.{arith}
use Rattle.vg_sums.proofs.Whole.{below_half}
use Rattle.vg_sums.proofs.span.greatest_of.Goals as goal

pub returns-clause-below : goal.returns-clause-below
returns-clause-below c = omega (arith, c.greatest.ensures, below_half c.args.width c.requires)
