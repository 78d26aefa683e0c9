use Rattle.vg_ssa.proofs.Running.{units-run-as-kernels}
use Rattle.vg_ssa.proofs.law.units_run_as_kernels.Goals as goal

pub returns : goal.returns
returns c = units-run-as-kernels
