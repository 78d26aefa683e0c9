-- what is appended, and what is still to be, are all that was to be
use Rattle.std.proofs.Common.{◌≡◌, ◌++◌, length, map}
use Rattle.vg_kernel.specs.Tree.{statement_of}
use Rattle.vg_loop_laws.specs.Unrolled.{moved_statement}
use Rattle.vg_loops.specs.MayMove.{MayAllMove}
use Rattle.vg_loops.proofs.unrolling.put_turn.Given as goal

abbrev pub invariant-statements : goal.invariant-statements
invariant-statements l =
    let moved = moved_statement l.steps l.turn l.names in
    record {
      may : MayAllMove l.steps l.turn l.names (map statement_of l.rest);
      same : map statement_of l.to.items ++ map moved (map statement_of l.rest)
          ≡ map statement_of l.initial.to.items ++ map moved (map statement_of l.statements);
    }

abbrev pub decreases-statements : goal.decreases-statements
decreases-statements l = length l.rest
