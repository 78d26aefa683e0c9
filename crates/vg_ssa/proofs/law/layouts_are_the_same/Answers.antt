use Rattle.vg_ssa.proofs.SameAccesses.{same-accesses, same-layouts}
use Rattle.vg_ssa.proofs.law.layouts_are_the_same.Goals as goal

pub returns-clause-accesses : goal.returns-clause-accesses
returns-clause-accesses c = same-accesses

pub returns-clause-layouts : goal.returns-clause-layouts
returns-clause-layouts c = same-layouts
