use Rattle.std.proofs.Common.{◌≡◌, ◌↔◌, ◌∙◌, ap, subst, sym}
use Rattle.std.specs.Prelude.{IsTrue}
use Rattle.std.specs.Ordering.{is_eq}
use Rattle.vg_terms.specs.Term.{tree}
use Rattle.vg_terms.proofs.term.Term.is_same.Goals as goal
use Rattle.vg_terms.proofs.Orders.{same_term-means}

pub returns-clause-means : goal.returns-clause-means
returns-clause-means c =
    subst (λ b. IsTrue b ↔ (tree c.args.self.now ≡ tree c.args.other.now)) (sym (c.is_eq.ensures ∙ ap is_eq c.key_cmp.ensures.is)) (same_term-means (tree c.args.self.now) (tree c.args.other.now))
