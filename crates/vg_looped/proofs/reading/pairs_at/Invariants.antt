-- the pairs so far, and what is read after them, are what is read of the text
use Rattle.std.proofs.Common.{◌≡◌, ◌≤◌, ◌-◌, [], vec_len}
use Rattle.vg_looped.specs.Grammar.{pairs_at}
use Rattle.vg_looped.proofs.reading.pairs_at.Given as goal

abbrev pub invariant-pairs : goal.invariant-pairs
invariant-pairs l = record {
  same : pairs_at (17 - vec_len l.pairs) l.params l.pairs.items l.least l.rest ≡ pairs_at 17 l.params [] 0 l.fn.text;
  few : vec_len l.pairs ≤ 17;
}

abbrev pub decreases-pairs : goal.decreases-pairs
decreases-pairs l = 17 - vec_len l.pairs
