use Rattle.vg_terms.specs.Term.{node_count, tree}
use Rattle.vg_forms.proofs.wholes.+whole_node.Given as goal

abbrev pub decreases-whole_node : goal.decreases-whole_node
decreases-whole_node l = node_count (tree l.t.now)
