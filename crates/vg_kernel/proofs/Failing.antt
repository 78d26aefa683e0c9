-- A fault of a part is one of the whole.
use Rattle.std.proofs.Common.{Result}
use Rattle.vg_base.specs.Bind.{◌>>=◌}
use Rattle.vg_base.proofs.Gives.{fails_bind}
use Rattle.vg_kernel.specs.declared.fault.KernelFault.{KernelFault}
use Rattle.vg_kernel.specs.Gives.{told, Fails}

pub fails-bind : {A B : Type 0} (fault : KernelFault) (r : Result A KernelFault) (f : A → Result B KernelFault) → Fails fault r → Fails fault (r >>= f)
fails-bind fault r f e = fails_bind (told fault) r f e
