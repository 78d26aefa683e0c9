use Rattle.vg_compile.proofs.Joined.{units-mean-kernels}
use Rattle.vg_compile.proofs.law.units_mean_kernels.Goals as goal

pub returns : goal.returns
returns c = units-mean-kernels
