use Rattle.std.proofs.Common.{length, map}
use Rattle.vg_kernel.specs.Tree.{statement_of}
use Rattle.vg_ssa.specs.Built.{built}
use Rattle.vg_ssa.proofs.Building.{Left}
use Rattle.vg_ssa.proofs.values.Values.number_statements.Given as goal

-- what was numbered and what is left are all
abbrev pub invariant-statements : goal.invariant-statements
invariant-statements l = Left (built l.initial.self) (map statement_of l.statements) (built l.self) (map statement_of l.rest)

abbrev pub decreases-statements : goal.decreases-statements
decreases-statements l = length l.rest
