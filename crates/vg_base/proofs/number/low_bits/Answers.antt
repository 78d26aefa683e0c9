use Rattle.std.proofs.Common.{◌∙◌, ap}
use Rattle.std.specs.Prelude.{bit_and}
use Rattle.std.proofs.lemmas.Nat.{and_mask}
use Rattle.vg_base.proofs.number.low_bits.Goals as goal

pub returns-clause-is : goal.returns-clause-is
returns-clause-is c = ap (bit_and c.args.value) c.greatest.ensures ∙ and_mask c.args.value c.args.width
