use Rattle.vg_interval.proofs.Uses.{plain_unary}
use Rattle.vg_interval.specs.Views.{found_view}
use Rattle.vg_interval.proofs.unary_uses.of_number.Goals as goal

pub returns : goal.returns
returns c =
    rw (plain_unary c.args.spot c.args.op c.args.inner (found_view c.args.found) c.requires.width c.requires.loose)
    c.of_operand.ensures
