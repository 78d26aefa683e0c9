-- the copies so far, and what is left, are the statements
use Rattle.std.proofs.Common.{◌≡◌, ◌++◌, length, map}
use Rattle.vg_kernel.specs.Tree.{statement_of}
use Rattle.vg_kernel.proofs.copying.copy_statements.Given as goal

abbrev pub invariant-statements : goal.invariant-statements
invariant-statements l =
    map statement_of l.copies.items ++ map statement_of l.rest ≡ map statement_of l.statements

abbrev pub decreases-statements : goal.decreases-statements
decreases-statements l = length l.rest
