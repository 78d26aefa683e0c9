use Rattle.std.proofs.Common.{◌∙◌, ap, length}
use Rattle.std.specs.Prelude.{nat_le, unwrap_or}
use Rattle.vg_beam.proofs.Numbers.{place-is}
use Rattle.vg_beam.proofs.key.place_of.Goals as goal

pub returns : goal.returns
returns c =
    c.unwrap_or.ensures ∙ ap (λ r. unwrap_or r (length c.args.key.now)) c.find_place.ensures
    ∙ place-is (λ x. nat_le c.args.number x) c.args.key.now
