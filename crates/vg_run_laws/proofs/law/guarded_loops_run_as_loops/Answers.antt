use Rattle.vg_run_laws.proofs.Runs.{guarded-loops-run-as-loops}
use Rattle.vg_run_laws.proofs.law.guarded_loops_run_as_loops.Goals as goal

pub returns : goal.returns
returns c = guarded-loops-run-as-loops
