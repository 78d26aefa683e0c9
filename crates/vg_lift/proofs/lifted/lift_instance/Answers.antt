use Rattle.vg_lift.proofs.Starting.{dst_fits}
use Rattle.vg_lift.proofs.lifted.lift_instance.Goals as goal

pub returns-clause-fit : goal.returns-clause-fit
returns-clause-fit c =
    dst_fits c.lift.new.pool c.in_ok-state.state c.lift.new.state _ c.args.instance.now.result c.in_ok-bits.bits c.in_ok-lift.ensures.leaves c.in_ok-bits.ensures
