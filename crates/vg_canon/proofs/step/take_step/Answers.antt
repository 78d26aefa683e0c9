use Rattle.std.proofs.Common.{◌≡◌, refl, sym, ◌∙◌}
use Rattle.std.specs.Prelude.{Some}
use Rattle.vg_rules_sum.specs.Rules.{first_row as first_sum_row}
use Rattle.vg_rules_width.specs.Rules.{first_row as first_width_row}
use Rattle.vg_rules_choice.specs.Rules.{first_row as first_choice_row}
use Rattle.vg_terms.specs.Term.{tree}
use Rattle.vg_canon.proofs.AtRest.{at_rest-none}
use Rattle.vg_canon.proofs.Choices.{choice-shallow}
use Rattle.vg_canon.proofs.Narrowings.{width-shallow}
use Rattle.vg_canon.proofs.Steps.{sum_first, width_first, choice_first}
use Rattle.vg_canon.proofs.Sums.{sum-walked}
use Rattle.vg_canon.proofs.step.take_step.Goals as goal

pub returns-then-is_at_rest : goal.returns-then-is_at_rest
returns-then-is_at_rest c = (at_rest-none (tree c.args.t) (sym c.is_at_rest.ensures ∙ c.if-is_at_rest.true) c.requires.children, refl)

pub returns-in_ok-apply : goal.returns-in_ok-apply
returns-in_ok-apply c =
    let e : first_sum_row (tree c.args.t) ≡ Some (tree c.in_ok-apply.field-0) = c.in_ok-apply.ensures in
    (sum_first (tree c.args.t) (tree c.in_ok-apply.field-0) e, rw c.of_sum-walk.ensures (sum-walked (tree c.args.t) (tree c.in_ok-apply.field-0) c.requires.children c.requires.well_formed e))

pub returns-in_ok-apply-2 : goal.returns-in_ok-apply-2
returns-in_ok-apply-2 c =
    let e : first_width_row (tree c.args.t) ≡ Some (tree c.in_ok-apply-2.field-0) = c.in_ok-apply-2.ensures in
    (width_first (tree c.args.t) (tree c.in_ok-apply-2.field-0) (sym c.applies.ensures ∙ c.if-applies.false) e, width-shallow (tree c.args.t) (tree c.in_ok-apply-2.field-0) c.requires.children e)

pub returns-in_ok-apply-3 : goal.returns-in_ok-apply-3
returns-in_ok-apply-3 c =
    let e : first_choice_row (tree c.args.t) ≡ Some (tree c.in_ok-apply-3.field-0) = c.in_ok-apply-3.ensures in
    (choice_first (tree c.args.t) (tree c.in_ok-apply-3.field-0) (sym c.applies.ensures ∙ c.if-applies.false) (sym c.applies-else-applies.ensures ∙ c.if-applies-2.false) e, choice-shallow (tree c.args.t) (tree c.in_ok-apply-3.field-0) c.requires.children e)
