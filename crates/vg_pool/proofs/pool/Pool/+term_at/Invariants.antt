use Rattle.vg_pool.proofs.pool.Pool.+term_at.Given as goal

abbrev pub decreases-term_at : goal.decreases-term_at
decreases-term_at l = l.node
