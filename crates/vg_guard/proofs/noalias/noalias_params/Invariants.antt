-- the copies are of the parameters so far
use Rattle.std.proofs.Common.{◌≡◌, map}
use Rattle.std.specs.Prelude.{take}
use Rattle.vg_guard.specs.Noalias.{noalias_param}
use Rattle.vg_guard.proofs.noalias.noalias_params.Given as goal

abbrev pub invariant-params : goal.invariant-params
invariant-params l = l.copies.items ≡ map noalias_param (take l.param-index l.fn.params)
