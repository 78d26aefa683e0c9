use Rattle.std.proofs.Common.{ap, arith, ◌∙◌}
use Rattle.vg_base.specs.Bits.{bits}
use Rattle.vg_base.specs.Number.{residue}
use Rattle.vg_script.specs.Views.{number_of}
use Rattle.vg_pmean.proofs.Numbers.{natural_bits, negative_bits}
use Rattle.vg_pmean.proofs.pieces.low_and_sign.Goals as goal

pub returns-in-Natural : goal.returns-in-Natural
returns-in-Natural c = λ w.
    ap (λ z. bits w (residue w (number_of z))) c.in-Natural.is ∙ natural_bits w c.in-Natural.n (omega arith)

pub returns-in-Negative : goal.returns-in-Negative
returns-in-Negative c = λ w.
    ap (λ z. bits w (residue w (number_of z))) c.in-Negative.is ∙ negative_bits w c.in-Negative.n (omega arith)
