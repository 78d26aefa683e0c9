-- the copies are of the parameters so far
use Rattle.std.proofs.Common.{◌≡◌}
use Rattle.std.specs.Prelude.{take}
use Rattle.vg_program.proofs.signature.copy_params.Given as goal

abbrev pub invariant-params : goal.invariant-params
invariant-params l = l.copies.items ≡ take l.param-index l.fn.params
