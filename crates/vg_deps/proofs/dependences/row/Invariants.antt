use Rattle.std.proofs.Common.{◌≤◌}
use Rattle.vg_deps.proofs.Rows.{RowSoFar}
use Rattle.vg_deps.proofs.dependences.row.Given as goal

abbrev pub invariant-earlier : goal.invariant-earlier
invariant-earlier l = record { below : l.left ≤ l.index; so_far : RowSoFar l.ssa l.index l.left l.row.items }

abbrev pub decreases-earlier : goal.decreases-earlier
decreases-earlier l = l.left
