use Rattle.std.proofs.Common.{◌≡◌, ◌≤◌, ◌^◌, min, length}
use Rattle.vg_program.specs.Tokens.{value_behind}
use Rattle.vg_program.proofs.tokens.number_of.Given as goal

abbrev pub invariant-digits : goal.invariant-digits
invariant-digits l = record {
  same : min (value_behind l.number l.rest) (2 ^ 64) ≡ min (value_behind 0 l.fn.digits) (2 ^ 64);
  capped : l.number ≤ 2 ^ 64;
}

abbrev pub decreases-digits : goal.decreases-digits
decreases-digits l = length l.rest
