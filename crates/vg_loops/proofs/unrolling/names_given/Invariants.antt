-- those that were counted, and those of the statements that are left, are all
use Rattle.std.proofs.Common.{◌≡◌, ◌+◌, ◌≤◌, length, map}
use Rattle.vg_kernel.specs.Tree.{statement_of}
use Rattle.vg_loop_laws.specs.Unrolled.{names_given}
use Rattle.vg_loops.proofs.unrolling.names_given.Given as goal

abbrev pub invariant-statements : goal.invariant-statements
invariant-statements l = record {
  counted : l.names + names_given (map statement_of l.rest) ≡ names_given (map statement_of l.statements);
  few : l.names + length l.rest ≤ 4096;
}

abbrev pub decreases-statements : goal.decreases-statements
decreases-statements l = length l.rest
