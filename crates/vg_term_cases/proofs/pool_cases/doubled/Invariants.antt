use Rattle.std.proofs.Common.{◌≡◌, ◌<◌, length}
use Rattle.vg_terms.specs.Term.{width_of}
use Rattle.vg_pool.specs.Pool.{tree_at}
use Rattle.vg_term_cases.proofs.pool_cases.doubled.Given as goal

abbrev pub invariant-times : goal.invariant-times
invariant-times l = (l.sum < length l.pool) × (width_of (tree_at l.pool l.sum) ≡ 8)
