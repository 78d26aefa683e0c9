use Rattle.std.proofs.Common.{◌≡◌, ◌≤◌, ◌+◌, length}
use Rattle.vg_program.specs.Grammar.{named_in}
use Rattle.vg_program.proofs.naming.named_in.Given as goal

abbrev pub invariant-params : goal.invariant-params
invariant-params l = record {
  same : named_in l.pointers l.integers l.rest l.name ≡ named_in 0 0 l.fn.params l.name;
  few_pointers : l.pointers + length l.rest ≤ 16;
  few_integers : l.integers + length l.rest ≤ 16;
}

abbrev pub decreases-params : goal.decreases-params
decreases-params l = length l.rest
