use Rattle.std.proofs.Common.{length}
use Rattle.vg_ssa.proofs.TermsLeft.{TermsLeft}
use Rattle.vg_ssa.proofs.value_terms.terms_of_units.Given as goal

-- the terms so far and those of the units that are left are all
abbrev pub invariant-units : goal.invariant-units
invariant-units l = TermsLeft l.depth l.params l.units l.known l.rest

abbrev pub decreases-units : goal.decreases-units
decreases-units l = length l.rest
