use Rattle.std.proofs.Common.{◌≡◌, ◌++◌, length, map}
use Rattle.vg_ssa.specs.Numbering.{param_of}
use Rattle.vg_ssa.proofs.numbering.ssa_params.Given as goal

-- the parameters so far and those that are left are all
abbrev pub invariant-params : goal.invariant-params
invariant-params l = l.all.items ++ map param_of l.rest ≡ map param_of l.params

abbrev pub decreases-params : goal.decreases-params
decreases-params l = length l.rest
