use Rattle.std.proofs.Common.{arith}
use Rattle.vg_sums.proofs.Whole.{below_half}
use Rattle.vg_sums.proofs.change.residue_of.Goals as goal

pub returns-clause-below : goal.returns-clause-below
returns-clause-below c = omega (arith, c.unsigned.ensures.below, below_half c.args.width c.requires.most)
