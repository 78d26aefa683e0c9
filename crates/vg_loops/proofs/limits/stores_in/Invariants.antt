-- those that were counted, and those of the statements that are left, are all
use Rattle.std.proofs.Common.{◌≡◌, ◌+◌, ◌≤◌, length, map}
use Rattle.vg_kernel.specs.Tree.{statement_of}
use Rattle.vg_loops.specs.Counts.{stores_in}
use Rattle.vg_loops.proofs.limits.stores_in.Given as goal

abbrev pub invariant-statements : goal.invariant-statements
invariant-statements l = record {
  counted : l.stores + stores_in (map statement_of l.rest) ≡ stores_in (map statement_of l.statements);
  few : l.stores + length l.rest ≤ 4096;
}

abbrev pub decreases-statements : goal.decreases-statements
decreases-statements l = length l.rest
