-- the statements that are left tell what all do
use Rattle.std.proofs.Common.{◌≡◌, length, map}
use Rattle.std.specs.List.{list_all}
use Rattle.vg_kernel.specs.Tree.{statement_of}
use Rattle.vg_loop_laws.specs.Limits.{statement_stays}
use Rattle.vg_loops.proofs.limits.all_stay.Given as goal

abbrev pub invariant-statements : goal.invariant-statements
invariant-statements l =
    list_all (statement_stays l.steps l.turn) (map statement_of l.rest)
    ≡ list_all (statement_stays l.steps l.turn) (map statement_of l.statements)

abbrev pub decreases-statements : goal.decreases-statements
decreases-statements l = length l.rest
