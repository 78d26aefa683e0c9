use Rattle.vg_lift.proofs.Puts.{state_fits}
use Rattle.vg_lift.proofs.putting.put_node.Goals as goal

pub put_bits-requires-clause-fits : goal.put_bits-requires-clause-fits
put_bits-requires-clause-fits c =
    state_fits c.args.pool.now c.low_node.new.pool c.args.state.now c.low_node.ensures.keeps c.requires.fits
