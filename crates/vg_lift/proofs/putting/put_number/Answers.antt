use Rattle.vg_lift.proofs.Puts.{state_fits}
use Rattle.vg_lift.proofs.putting.put_number.Goals as goal

pub put_bits-requires-clause-fits : goal.put_bits-requires-clause-fits
put_bits-requires-clause-fits c =
    state_fits c.args.pool.now c.constant_bits.new.pool c.args.state.now c.constant_bits.ensures.keeps c.requires.fits
