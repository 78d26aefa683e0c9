use Rattle.std.proofs.Common.{arith}
use Rattle.vg_lift.proofs.join.opening.Goals as goal

pub returns-clause-few : goal.returns-clause-few
returns-clause-few c = (c.args._place, omega arith, omega (arith, c.start_run.ensures.size))
