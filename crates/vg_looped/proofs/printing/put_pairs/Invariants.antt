-- what is appended, and the pairs that are left, are all
use Rattle.std.proofs.Common.{◌≡◌, ◌++◌, length}
use Rattle.vg_looped.specs.Looped.{pairs_text}
use Rattle.vg_looped.proofs.printing.put_pairs.Given as goal

abbrev pub invariant-pairs : goal.invariant-pairs
invariant-pairs l = l.to.items ++ pairs_text l.params l.rest ≡ l.initial.to.items ++ pairs_text l.params l.pairs

abbrev pub decreases-pairs : goal.decreases-pairs
decreases-pairs l = length l.rest
