use Rattle.std.proofs.Common.{◌+◌, ◌*◌}
use Rattle.vg_terms.specs.Term.{node_count, tree}
use Rattle.vg_terms.proofs.order.+shapes.Given as goal

abbrev pub decreases-compare_shapes : goal.decreases-compare_shapes
decreases-compare_shapes l = 2 * node_count (tree l.t.now) + 1

abbrev pub decreases-compare_below : goal.decreases-compare_below
decreases-compare_below l = 2 * node_count (tree l.t.now)
