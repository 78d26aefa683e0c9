use Rattle.std.proofs.Common.{◌≡◌, ◌∙◌, ap, sym, subst}
use Rattle.std.specs.Prelude.{IsSome, Some}
use Rattle.vg_terms.specs.Term.{tree}
use Rattle.vg_rules_sum.specs.Constant.{twice}
use Rattle.vg_rules_sum.specs.Rules.{same_operands}
use Rattle.vg_rules_sum.proofs.Given.{given}
use Rattle.vg_rules_sum.proofs.rows.same_operands.Goals as goal

pub returns-in-Two : goal.returns-in-Two
unfolding same_operands
returns-in-Two c =
    let here = subst (λ t. IsSome (same_operands (tree t))) c.in-Two.is c.requires.applies in
    let child = ap tree c.into_inner.ensures in
    let result = c.twice.ensures ∙ ap (twice c.in-Two.op c.in-Two.width) child in
    subst (λ t. same_operands (tree t) ≡ Some (tree c.twice.result)) (sym c.in-Two.is) (given _ _ here ∙ ap Some (sym result))
