use Rattle.std.proofs.Common.{◌≡◌, ◌++◌, map, drop}
use Rattle.vg_terms.specs.Term.{tree}
use Rattle.vg_match.specs.Least.{numbered, pair_of}
use Rattle.vg_match.proofs.least.number_terms.Given as goal

abbrev pub invariant-loop-value : goal.invariant-loop-value
invariant-loop-value l = map pair_of l.values.items ++ numbered l.value (map tree (drop l.value l.terms)) ≡ numbered 0 (map tree l.terms)
