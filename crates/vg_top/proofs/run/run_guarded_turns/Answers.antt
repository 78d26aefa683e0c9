use Rattle.std.proofs.Common.{rules}
use Rattle.vg_top.proofs.Few.{guarded_loop_few}
use Rattle.vg_top.proofs.run.run_guarded_turns.Goals as goal

pub run_guarded_loop-requires-clause-few : goal.run_guarded_loop-requires-clause-few
run_guarded_loop-requires-clause-few c = guarded_loop_few _ c.args.looped.now _ c.requires.rules (search rules)
