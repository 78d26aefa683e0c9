use Rattle.vg_terms.specs.Term.{node_count, tree}
use Rattle.vg_rules_sum.proofs.chain.+put_in.Given as goal

abbrev pub decreases-put_in : goal.decreases-put_in
decreases-put_in l = node_count (tree l.t.now)
