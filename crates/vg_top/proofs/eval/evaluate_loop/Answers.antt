use Rattle.std.proofs.Common.{rules}
use Rattle.vg_loops.specs.View.{loop_of}
use Rattle.vg_top.proofs.Few.{loop_few}
use Rattle.vg_top.proofs.eval.evaluate_loop.Goals as goal

pub run_loop-requires-clause-few : goal.run_loop-requires-clause-few
run_loop-requires-clause-few c = loop_few (loop_of c.args.source.now) _ c.requires (search rules)
