-- what is left, read after those that are done, is what the whole was
use Rattle.std.proofs.Common.{◌≡◌, ◌≤◌, ◌-◌, [], ◌∷◌, vec_len}
use Rattle.vg_catalog.specs.Lexing.{left_of}
use Rattle.vg_catalog.specs.Headers.{params_from}
use Rattle.vg_catalog.proofs.header_reading.more_params.Given as goal

abbrev pub invariant-params : goal.invariant-params
invariant-params l = record {
  room : vec_len l.done ≤ 4;
  read : params_from (4 - vec_len l.done) l.done.items (left_of l.reader) ≡ params_from 3 (l.fn.first ∷ []) (left_of l.initial.reader);
}

abbrev pub decreases-params : goal.decreases-params
decreases-params l = 4 - vec_len l.done
