use Rattle.std.proofs.Common.{length}
use Rattle.vg_verify.specs.Noting.{Noting}
use Rattle.vg_verify.specs.Views.{pairs_in}
use Rattle.vg_verify.proofs.event_bits.EventBits.new.Given as goal

abbrev pub invariant-pairs : goal.invariant-pairs
invariant-pairs l = Noting l.table.entries (pairs_in l.rest) (pairs_in l.initial.rest)

abbrev pub decreases-pairs : goal.decreases-pairs
decreases-pairs l = length l.rest
