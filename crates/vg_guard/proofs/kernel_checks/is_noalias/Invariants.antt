-- the pointer that is looked for is one of those that are left
use Rattle.std.proofs.Common.{◌≡◌, length, slice_get}
use Rattle.std.specs.List.{filter_map}
use Rattle.vg_kernel.specs.Layout.{noalias_of}
use Rattle.vg_guard.proofs.kernel_checks.is_noalias.Given as goal

abbrev pub invariant-params : goal.invariant-params
invariant-params l =
    slice_get (filter_map noalias_of l.rest) l.left ≡ slice_get (filter_map noalias_of l.fn.params) l.fn.number

abbrev pub decreases-params : goal.decreases-params
decreases-params l = length l.rest
