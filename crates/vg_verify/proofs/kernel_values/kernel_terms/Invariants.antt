use Rattle.vg_shapes.specs.Units.{arguments}
use Rattle.vg_shapes.specs.Layout.{noalias_flags}
use Rattle.vg_known.specs.Kernels.{kernel_terms}
use Rattle.vg_verify.specs.Beginning.{Termed}
use Rattle.vg_verify.specs.Views.{terms_of}
use Rattle.vg_verify.proofs.kernel_values.kernel_terms.Given as goal

abbrev pub invariant-units : goal.invariant-units
invariant-units l = Termed (noalias_flags l.fn.ssa) (arguments l.fn.ssa) l.fn.ssa.units l.place (terms_of l.made) (kernel_terms l.fn.ssa)
