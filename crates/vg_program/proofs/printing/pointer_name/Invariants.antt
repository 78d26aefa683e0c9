use Rattle.std.proofs.Common.{◌≡◌, length, slice_get}
use Rattle.vg_program.specs.Params.{pointers}
use Rattle.vg_program.proofs.printing.pointer_name.Given as goal

abbrev pub invariant-params : goal.invariant-params
invariant-params l = slice_get (pointers l.rest) l.left ≡ slice_get (pointers l.fn.params) l.fn.number

abbrev pub decreases-params : goal.decreases-params
decreases-params l = length l.rest
