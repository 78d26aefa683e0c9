use Rattle.std.proofs.Common.{◌≡◌, ◌≤◌, ◌-◌, [], vec_len}
use Rattle.vg_program.specs.Grammar.{params_behind}
use Rattle.vg_program.proofs.param_reading.params_behind.Given as goal

abbrev pub invariant-params : goal.invariant-params
invariant-params l = record {
  same : params_behind (16 - vec_len l.params) l.params.items l.rest ≡ params_behind 16 [] l.fn.text;
  few : vec_len l.params ≤ 16;
}

abbrev pub decreases-params : goal.decreases-params
decreases-params l = 16 - vec_len l.params
