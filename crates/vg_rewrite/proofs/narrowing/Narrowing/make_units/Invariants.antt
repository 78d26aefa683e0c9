use Rattle.std.proofs.Common.{◌≡◌, ◌+◌, ◌*◌, ◌<◌, ◌≤◌, ◌^◌, length, vec_len}
use Rattle.std.specs.List.{AllByRecursion}
use Rattle.vg_rewrite.specs.Making.{narrowing}
use Rattle.vg_rewrite.specs.Narrowed.{make_units}
use Rattle.vg_rewrite.specs.Readable.{UnitIsNarrowed}
use Rattle.vg_rewrite.proofs.narrowing.Narrowing.make_units.Given as goal

-- what was made and what is left are all
abbrev pub invariant-units : goal.invariant-units
invariant-units l = record {
  same : make_units l.spans l.all l.value l.rest (narrowing l.self) ≡ make_units l.spans l.all l.first l.units (narrowing l.initial.self);
  read : AllByRecursion UnitIsNarrowed l.rest;
  first : l.self.first ≡ l.initial.self.first;
  few : l.value + length l.rest < 2 ^ 32;
  room : vec_len l.self.units + 9 * length l.rest ≤ vec_len l.initial.self.units + 9 * length l.units;
}

abbrev pub decreases-units : goal.decreases-units
decreases-units l = length l.rest
