-- what is copied, and what is left, are all
use Rattle.std.proofs.Common.{◌≡◌, ◌++◌, length}
use Rattle.vg_loops.proofs.copying.copied_params.Given as goal

abbrev pub invariant-params : goal.invariant-params
invariant-params l = l.copied.items ++ l.rest ≡ l.params

abbrev pub decreases-params : goal.decreases-params
decreases-params l = length l.rest
