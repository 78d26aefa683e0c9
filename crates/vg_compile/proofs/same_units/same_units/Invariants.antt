use Rattle.std.proofs.Common.{◌≡◌, length}
use Rattle.vg_compile.specs.SameUnits.{same_units}
use Rattle.vg_compile.proofs.same_units.same_units.Given as goal

-- what is left decides
abbrev pub invariant-units : goal.invariant-units
invariant-units l = same_units l.one l.other ≡ same_units l.rest l.others

abbrev pub decreases-units : goal.decreases-units
decreases-units l = length l.rest
