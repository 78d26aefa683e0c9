use Rattle.std.proofs.Common.{◌/◌, ◌%◌, ◌^◌, ◌∙◌, sym, ap}
use Rattle.vg_base.specs.Number.{residue}
use Rattle.vg_script.specs.Views.{number_of}
use Rattle.vg_lift.proofs.Constants.{natural_part, negative_part, one_less}
use Rattle.vg_lift.proofs.constant.piece_value.Goals as goal

pub returns-in-Natural-clause-is : goal.returns-in-Natural-clause-is
returns-in-Natural-clause-is c = λ w h.
    let first = c.args.first in
    let count = c.args.count in
    c.digits.ensures ∙ natural_part c.in-Natural.n w first count h
    ∙ ap (λ z. residue w (number_of z) / 2 ^ first % 2 ^ count) (sym c.in-Natural.is)

pub returns-in-Negative-clause-is : goal.returns-in-Negative-clause-is
returns-in-Negative-clause-is c = λ w h.
    let first = c.args.first in
    let count = c.args.count in
    let n = c.in-Negative.n in
    one_less count (n / 2 ^ first % 2 ^ count) _ c.requires c.digits-in-Negative.ensures
    ∙ negative_part n w first count h
    ∙ ap (λ z. residue w (number_of z) / 2 ^ first % 2 ^ count) (sym c.in-Negative.is)
