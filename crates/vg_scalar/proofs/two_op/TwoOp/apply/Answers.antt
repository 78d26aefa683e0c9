use Rattle.std.proofs.lemmas.Nat.{or_lt, xor_lt}
use Rattle.vg_base.specs.Width.{bits_of}
use Rattle.vg_scalar.proofs.two_op.TwoOp.apply.Goals as goal

pub returns-in-Or-clause-below : goal.returns-in-Or-clause-below
returns-in-Or-clause-below c = or_lt (bits_of c.args.width) _ _ c.low-first.ensures.below c.low-second.ensures.below

pub returns-in-Xor-clause-below : goal.returns-in-Xor-clause-below
returns-in-Xor-clause-below c = xor_lt (bits_of c.args.width) _ _ c.low-first.ensures.below c.low-second.ensures.below
