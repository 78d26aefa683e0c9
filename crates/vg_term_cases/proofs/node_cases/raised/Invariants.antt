use Rattle.std.proofs.Common.{◌≡◌, ◌<◌, length}
use Rattle.vg_terms.specs.Term.{width_of}
use Rattle.vg_pool.specs.Pool.{tree_at}
use Rattle.vg_term_cases.proofs.node_cases.raised.Given as goal

abbrev pub invariant-times : goal.invariant-times
invariant-times l =
    (l.top < length l.pool) × (width_of (tree_at l.pool l.top) ≡ 8)
    × (l.node < length l.pool) × (width_of (tree_at l.pool l.node) ≡ 8)
