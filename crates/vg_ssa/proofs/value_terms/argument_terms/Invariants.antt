use Rattle.std.proofs.Common.{◌≡◌, ◌+◌, ◌≤◌, ◌++◌, length, map, vec_len}
use Rattle.vg_ssa.specs.OfUnits.{widths_of}
use Rattle.vg_ssa.specs.ValueTerm.{argument_terms}
use Rattle.vg_terms.specs.Term.{tree}
use Rattle.vg_ssa.proofs.value_terms.argument_terms.Given as goal

-- the terms so far and those of the parameters that are left are all
abbrev pub invariant-params : goal.invariant-params
invariant-params l = record {
  all : map tree l.terms.items ++ argument_terms (vec_len l.terms) (widths_of l.rest) ≡ argument_terms 0 (widths_of l.params);
  few : vec_len l.terms + length l.rest ≤ 16;
}

abbrev pub decreases-params : goal.decreases-params
decreases-params l = length l.rest
