use Rattle.std.proofs.Common.{◌∙◌, sym}
use Rattle.vg_terms.specs.Term.{tree}
use Rattle.vg_terms.proofs.term.Term.key_cmp.Goals as goal
use Rattle.vg_terms.proofs.Orders.{order-leaves, order-apart, order-equal}

pub returns-in-Equal-clause-is : goal.returns-in-Equal-clause-is
returns-in-Equal-clause-is c =
    c.compare_leaves.ensures ∙ sym (order-leaves (tree c.args.self.now) (tree c.args.other.now) (sym c.compare_shapes.ensures ∙ c.in-Equal.is))

pub returns-in-Equal-clause-same : goal.returns-in-Equal-clause-same
returns-in-Equal-clause-same c e =
    let is = order-leaves (tree c.args.self.now) (tree c.args.other.now) (sym c.compare_shapes.ensures ∙ c.in-Equal.is) in
    order-equal (tree c.args.self.now) (tree c.args.other.now) (is ∙ sym c.compare_leaves.ensures ∙ e)

pub returns-in_default-clause-is : goal.returns-in_default-clause-is
returns-in_default-clause-is c =
    c.compare_shapes.ensures ∙ sym (order-apart (tree c.args.self.now) (tree c.args.other.now) (λ e. c.in_default.not-Equal (c.compare_shapes.ensures ∙ e)))

pub returns-in_default-clause-same : goal.returns-in_default-clause-same
returns-in_default-clause-same c e = absurd (c.in_default.not-Equal e)
