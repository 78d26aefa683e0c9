use Rattle.std.proofs.Common.{◌∙◌, ap, refl, subst, sym}
use Rattle.std.specs.List.{flat_map, sum_by}
use Rattle.std.proofs.lemmas.Grind.{flat_map-append}
use Rattle.std.proofs.lemmas.List.{append-nil, take_all}
use Rattle.vg_cost.specs.LongerPlan.{all_packs, described}
use Rattle.vg_cost.specs.Marks.{Marked}
use Rattle.vg_cost.specs.Taken.{inserted_for, taken_for, taken_of}
use Rattle.vg_cost.proofs.Marking.{marked_all, marked_none, marked_step}
use Rattle.vg_cost.proofs.Steps.{sum_more}
use Rattle.vg_cost.proofs.taken.operands_cost.Goals as goal

pub operands-init : goal.operands-init
operands-init c = (refl, marked_none _)

pub operands-preserved : goal.operands-preserved
operands-preserved c =
    let x = c.operand-item.result in
    let know = taken_for (described c.args.plan.now) c.args.plan.now.ssa.now (all_packs c.args.plan.now) in
    let same = ap (taken_of x) c.in_ok-recipe.ensures in (
      sum_more c.args.operands.now c.operands.operand-index x x c.operands-test.true c.operand-item.is
          (λ o. (know o).recipe.lines) _ _ _ c.operands.invariant.0 (ap (λ t. t.lines) c.in_ok-recipe.ensures) c.in_ok-sum.ensures,
      marked_step (flat_map (λ o. inserted_for (know o))) c.args.operands.now c.operands.operand-index x x _ _ _
          (flat_map-append (λ o. inserted_for (know o))) c.operands-test.true c.operand-item.is c.operands.invariant.1
          (subst (λ l. Marked l c.operands.needed c.mark_inserted.new.needed)
          (ap inserted_for same ∙ sym (append-nil (inserted_for (know x)))) c.mark_inserted.ensures),
    )

pub returns : goal.returns
returns c =
    let know = taken_for (described c.args.plan.now) c.args.plan.now.ssa.now (all_packs c.args.plan.now) in
    record {
      cost = c.operands.invariant.0 ∙ ap (sum_by (λ o. (know o).recipe.lines)) (take_all c.operands.operand-index c.args.operands.now c.operands-test.false);
      marks = marked_all (flat_map (λ o. inserted_for (know o))) c.args.operands.now c.operands.operand-index _ _ c.operands-test.false
          c.operands.invariant.1;
    }
