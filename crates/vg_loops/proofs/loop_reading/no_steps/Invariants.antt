-- the steps so far, and those of the parameters that are left, are all
use Rattle.std.proofs.Common.{◌≡◌, ◌++◌, length, map}
use Rattle.vg_kernel.specs.WellFormed.{pointers}
use Rattle.vg_loops.proofs.loop_reading.no_steps.Given as goal

abbrev pub invariant-params : goal.invariant-params
invariant-params l = l.steps.items ++ map (λ p. 0) (pointers l.rest) ≡ map (λ p. 0) (pointers l.params)

abbrev pub decreases-params : goal.decreases-params
decreases-params l = length l.rest
