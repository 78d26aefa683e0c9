use Rattle.vg_run_laws.proofs.Runs.{programs-run-as-kernels}
use Rattle.vg_run_laws.proofs.law.programs_run_as_kernels.Goals as goal

pub returns : goal.returns
returns c = programs-run-as-kernels
