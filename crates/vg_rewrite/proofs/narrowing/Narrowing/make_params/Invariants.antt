use Rattle.std.proofs.Common.{◌≡◌, ◌+◌, ◌*◌, ◌≤◌, length, vec_len}
use Rattle.vg_rewrite.specs.Making.{narrowing}
use Rattle.vg_rewrite.specs.Narrowed.{make_params}
use Rattle.vg_rewrite.proofs.narrowing.Narrowing.make_params.Given as goal

-- what was made and what is left are all
abbrev pub invariant-widths : goal.invariant-widths
invariant-widths l = record {
  same : make_params l.spans l.all l.value l.rest (narrowing l.self) ≡ make_params l.spans l.all 0 l.widths (narrowing l.initial.self);
  first : l.self.first ≡ l.initial.self.first;
  few : l.value + length l.rest ≡ length l.widths;
  room : vec_len l.self.units + 9 * length l.rest ≤ vec_len l.initial.self.units + 9 * length l.widths;
}

abbrev pub decreases-widths : goal.decreases-widths
decreases-widths l = length l.rest
