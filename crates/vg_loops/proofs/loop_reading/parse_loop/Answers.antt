use Rattle.vg_loops.proofs.Found.{loops-are}
use Rattle.vg_loops.proofs.loop_reading.parse_loop.Goals as goal

pub returns-clause-is_loop : goal.returns-clause-is_loop
returns-clause-is_loop c = loops-are c.args.text.now c.read.result c.read.ensures.exact
