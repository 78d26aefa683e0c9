use Rattle.std.proofs.Common.{◌≡◌, length}
use Rattle.vg_terms.specs.Value.{number_at}
use Rattle.vg_terms.proofs.value.Env.number.Given as goal

abbrev pub invariant-pairs : goal.invariant-pairs
invariant-pairs l = number_at l.rest l.key ≡ number_at l.initial.rest l.key

abbrev pub decreases-pairs : goal.decreases-pairs
decreases-pairs l = length l.rest
