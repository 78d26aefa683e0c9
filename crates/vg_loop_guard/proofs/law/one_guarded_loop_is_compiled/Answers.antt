use Rattle.vg_loop_guard.proofs.OneGuardedLoop.{one-guarded-loop}
use Rattle.vg_loop_guard.proofs.law.one_guarded_loop_is_compiled.Goals as goal

pub returns : goal.returns
returns c = one-guarded-loop
