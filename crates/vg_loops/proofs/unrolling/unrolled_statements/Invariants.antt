-- the turns that are written out, and those that are left, are all
use Rattle.std.proofs.Common.{◌≡◌, ◌++◌, ◌-◌, ◌≤◌, ◌*◌, length, map}
use Rattle.vg_kernel.specs.Tree.{statement_of}
use Rattle.vg_loop_laws.specs.Unrolled.{unrolled_from, unrolled}
use Rattle.vg_loops.specs.View.{loop_of}
use Rattle.vg_loops.proofs.unrolling.unrolled_statements.Given as goal

abbrev pub invariant-turns : goal.invariant-turns
invariant-turns l =
    let source = loop_of l.source in
    record {
      room : l.turn ≤ l.turns;
      same : map statement_of l.unrolled.items
          ++ unrolled_from source.steps source.kernel.statements (l.turns - l.turn) l.turn
          ≡ (unrolled source l.turns).statements;
    }

abbrev pub decreases-turns : goal.decreases-turns
decreases-turns l = l.turns - l.turn
