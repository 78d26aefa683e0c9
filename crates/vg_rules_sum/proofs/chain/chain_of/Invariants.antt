use Rattle.std.proofs.Common.{◌≡◌, map}
use Rattle.std.specs.Vec.Iter.{into_iter_items}
use Rattle.vg_terms.specs.Chain.{chain}
use Rattle.vg_terms.specs.Term.{tree}
use Rattle.vg_rules_sum.proofs.chain.chain_of.Given as goal

abbrev pub invariant-nest : goal.invariant-nest
invariant-nest l =
    chain l.op l.width (tree l.whole) (map tree (into_iter_items l.part-iterator)) ≡ chain l.op l.width (tree l.initial.whole) (map tree (into_iter_items l.initial.part-iterator))
