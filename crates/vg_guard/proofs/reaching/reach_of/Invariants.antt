-- what is reached with the statements that are left, after what is reached so far, is what all reach
use Rattle.std.proofs.Common.{◌≡◌, length, map}
use Rattle.vg_kernel.specs.Tree.{statement_of, tree_of}
use Rattle.vg_guard.specs.Reaching.{reach_with_all, reach_of}
use Rattle.vg_guard.proofs.reaching.reach_of.Given as goal

abbrev pub invariant-statements : goal.invariant-statements
invariant-statements l =
    reach_with_all l.pointer l.reach (map statement_of l.rest) ≡ reach_of (tree_of l.kernel) l.pointer

abbrev pub decreases-statements : goal.decreases-statements
decreases-statements l = length l.rest
