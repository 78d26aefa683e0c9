use Rattle.vg_run_laws.proofs.Shelves.{compiled-texts-run-as-evaluated}
use Rattle.vg_run_laws.proofs.law.compiled_texts_run_as_evaluated.Goals as goal

pub returns : goal.returns
returns c = compiled-texts-run-as-evaluated
