use Rattle.vg_run_laws.proofs.Runs.{looped-texts-run-as-loops}
use Rattle.vg_run_laws.proofs.law.looped_texts_run_as_loops.Goals as goal

pub returns : goal.returns
returns c = looped-texts-run-as-loops
