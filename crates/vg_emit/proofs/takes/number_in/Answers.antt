use Rattle.std.proofs.Common.{◌∙◌, ap, length}
use Rattle.std.specs.Prelude.{unwrap_or}
use Rattle.vg_emit.proofs.Places.{number-is}
use Rattle.vg_emit.proofs.takes.number_in.Goals as goal

pub returns : goal.returns
returns c =
    c.unwrap_or.ensures ∙ ap (λ r. unwrap_or r (length c.args.operands.now)) c.place_in.ensures
    ∙ number-is c.args.operands.now c.args.operand.now
