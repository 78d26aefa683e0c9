use Rattle.std.proofs.Common.{arith}
use Rattle.std.proofs.lemmas.Nat.{pow_pos}
use Rattle.vg_base.proofs.LowBits.{pow-le}
use Rattle.vg_spans.proofs.span.greatest_word.Goals as goal

pub returns-clause-below : goal.returns-clause-below
returns-clause-below c =
    omega (arith, c.greatest.ensures, pow_pos c.args.width, pow-le c.args.width 127 c.requires)
