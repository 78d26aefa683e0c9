use Rattle.vg_interval.proofs.Uses.{other_op}
use Rattle.vg_interval.proofs.unary_uses.of_small_slice.Goals as goal

pub returns-in_default : goal.returns-in_default
returns-in_default c =
    rw (other_op c.args.spot c.args.op _ _ _ c.in_default.not-Signed c.in_default.not-SignExtend c.in_default.not-ZeroExtend)
    c.of_moving_slice.ensures
