use Rattle.std.proofs.Common.{◌≡◌, ◌++◌, length}
use Rattle.vg_ssa.specs.OfUnits.{widths_of}
use Rattle.vg_rewrite.proofs.narrow.param_widths.Given as goal

-- the widths so far and those of the parameters that are left are all
abbrev pub invariant-params : goal.invariant-params
invariant-params l = l.widths.items ++ widths_of l.rest ≡ widths_of l.params

abbrev pub decreases-params : goal.decreases-params
decreases-params l = length l.rest
