use Rattle.std.proofs.Common.{◌≡◌, ◌++◌, length, map}
use Rattle.vg_terms.specs.Term.{tree}
use Rattle.vg_compile.proofs.uncut.copy_terms.Given as goal

-- the terms so far and those that are left are all
abbrev pub invariant-terms : goal.invariant-terms
invariant-terms l = map tree l.all.items ++ map tree l.rest ≡ map tree l.terms

abbrev pub decreases-terms : goal.decreases-terms
decreases-terms l = length l.rest
