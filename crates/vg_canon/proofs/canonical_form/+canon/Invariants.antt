use Rattle.std.proofs.Common.{◌+◌, ◌*◌}
use Rattle.vg_terms.specs.Measure.{measure}
use Rattle.vg_terms.specs.Term.{tree}
use Rattle.vg_canon.proofs.canonical_form.+canon.Given as goal

abbrev pub decreases-settle : goal.decreases-settle
decreases-settle l = 6 * measure (tree l.t) + 4

abbrev pub decreases-settle_below : goal.decreases-settle_below
decreases-settle_below l = 6 * measure (tree l.t) + 3

abbrev pub decreases-settle_children : goal.decreases-settle_children
decreases-settle_children l = 6 * measure (tree l.t) + 2

abbrev pub decreases-settle_root : goal.decreases-settle_root
decreases-settle_root l = 6 * measure (tree l.t)

abbrev pub decreases-settle_boxed : goal.decreases-settle_boxed
decreases-settle_boxed l = 6 * measure (tree l.t.value) + 5

abbrev pub decreases-settled_chain : goal.decreases-settled_chain
decreases-settled_chain l = 6 * measure (tree l.t) + 2

abbrev pub decreases-settle_chain : goal.decreases-settle_chain
decreases-settle_chain l = 6 * measure (tree l.t.now) + 1

abbrev pub decreases-settle_first : goal.decreases-settle_first
decreases-settle_first l = 6 * measure (tree l.t.now)
