-- the statements that are left tell what all do
use Rattle.std.proofs.Common.{◌≡◌, length, map}
use Rattle.vg_kernel.specs.Tree.{statement_of}
use Rattle.vg_loops.specs.Reader.{stores_moving}
use Rattle.vg_loops.proofs.loop_reading.stores_moving.Given as goal

abbrev pub invariant-statements : goal.invariant-statements
invariant-statements l =
    stores_moving l.steps (map statement_of l.rest) ≡ stores_moving l.steps (map statement_of l.statements)

abbrev pub decreases-statements : goal.decreases-statements
decreases-statements l = length l.rest
