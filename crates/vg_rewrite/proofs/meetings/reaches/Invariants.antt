use Rattle.std.proofs.Common.{◌≡◌, ◌++◌, length}
use Rattle.vg_rewrite.specs.Meetings.{reaches_from}
use Rattle.vg_rewrite.proofs.meetings.reaches.Given as goal

-- what was found and what is left are all
abbrev pub invariant-units : goal.invariant-units
invariant-units l = l.all.items ++ reaches_from l.flags.items l.rest ≡ reaches_from l.flags.items l.ssa.units

abbrev pub decreases-units : goal.decreases-units
decreases-units l = length l.rest
