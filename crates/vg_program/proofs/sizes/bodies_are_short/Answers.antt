use Rattle.vg_program.proofs.TextSizes.{bodies_short}
use Rattle.vg_program.proofs.sizes.bodies_are_short.Goals as goal

pub returns : goal.returns
returns c = bodies_short
