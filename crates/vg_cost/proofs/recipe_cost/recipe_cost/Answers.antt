use Rattle.std.proofs.Common.{◌≡◌, ◌∙◌, subst, sym}
use Rattle.std.specs.Result.{IfOk}
use Rattle.vg_cost.specs.LongerPlan.{all_packs, described}
use Rattle.vg_cost.proofs.Known.{unmet_is}
use Rattle.vg_cost.proofs.MarkTests.{unmet_by}
use Rattle.vg_cost.proofs.recipe_cost.recipe_cost.Goals as goal

pub returns-then-not-may_be_all_given : goal.returns-then-not-may_be_all_given
returns-then-not-may_be_all_given c =
    let plan = all_packs c.args.plan.now in
    subst (λ k. IfOk c.unmet_cost.result (λ r. r ≡ k))
    (unmet_is (described c.args.plan.now) c.args.plan.now.ssa.now plan c.args.operand.now
    (unmet_by plan c.args.plan.now.marks.now c.args.operand.now c.requires.marks
    (sym c.may_be_all_given.ensures ∙ c.if-not-may_be_all_given.true)) (sym c.requires.shuffles.tight ∙ c.if-plan.true))
    c.unmet_cost.ensures
