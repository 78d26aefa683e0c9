use Rattle.std.proofs.Common.{◌↔◌, subst, sym}
use Rattle.std.specs.Prelude.{IsTrue}
use Rattle.vg_terms.specs.Chain.{CanBeSorted}
use Rattle.vg_terms.specs.Term.{tree}
use Rattle.vg_terms.proofs.term.Term.is_disordered.Goals as goal
use Rattle.vg_terms.proofs.SortChain.{can_be_sorted}

pub returns-clause-means : goal.returns-clause-means
returns-clause-means c g =
    subst (λ b. IsTrue b ↔ CanBeSorted (tree c.args.self.now)) (sym c.can_be_sorted.ensures) (can_be_sorted (tree c.args.self.now) g)
