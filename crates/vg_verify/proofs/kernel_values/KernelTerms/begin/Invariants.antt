use Rattle.std.proofs.Common.{length}
use Rattle.vg_shapes.specs.Units.{integers_of}
use Rattle.vg_known.specs.Kernels.{argument_leaves}
use Rattle.vg_verify.specs.Beginning.{Begun}
use Rattle.vg_verify.proofs.kernel_values.KernelTerms.begin.Given as goal

abbrev pub invariant-params : goal.invariant-params
invariant-params l = Begun l.begun.terms.items l.begun.maker.classes l.rest (argument_leaves 0 (integers_of l.initial.rest))

abbrev pub decreases-params : goal.decreases-params
decreases-params l = length l.rest
