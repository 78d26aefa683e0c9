-- what was counted and what is left make the whole
use Rattle.std.proofs.Common.{◌≡◌, ◌+◌, length, map}
use Rattle.std.specs.Prelude.{sum_by}
use Rattle.vg_kernel.specs.Cost.{statement_cost}
use Rattle.vg_kernel.specs.Tree.{statement_of}
use Rattle.vg_kernel.proofs.costs.cost_of.Given as goal

abbrev pub invariant-statements : goal.invariant-statements
invariant-statements l = l.cost + sum_by statement_cost (map statement_of l.rest) ≡ sum_by statement_cost (map statement_of l.initial.rest)

abbrev pub decreases-statements : goal.decreases-statements
decreases-statements l = length l.rest
