use Rattle.vg_run_laws.proofs.Runs.{guarded-texts-run-as-kernels}
use Rattle.vg_run_laws.proofs.law.guarded_texts_run_as_kernels.Goals as goal

pub returns : goal.returns
returns c = guarded-texts-run-as-kernels
