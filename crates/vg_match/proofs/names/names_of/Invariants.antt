use Rattle.std.proofs.Common.{◌≡◌, ◌++◌, map, drop}
use Rattle.vg_terms.specs.Term.{tree}
use Rattle.vg_match.specs.Names.{names_from, names_of}
use Rattle.vg_match.proofs.names.names_of.Given as goal

abbrev pub invariant-loop-value : goal.invariant-loop-value
invariant-loop-value l = map tree l.names.items ++ names_from l.ssa l.value (map tree (drop l.value l.ssa.cuts)) ≡ names_of l.ssa
