use Rattle.std.proofs.Common.{◌∙◌, ◌++◌, ap, map}
use Rattle.std.specs.List.{list_any}
use Rattle.std.specs.Prelude.{◌||◌}
use Rattle.vg_cost.specs.LongerPlan.{all_packs, described}
use Rattle.vg_kernel_plans.specs.SameAs.{same_operand}
use Rattle.vg_cost.specs.Taken.{kept_for, taken_for, taken_of}
use Rattle.vg_cost.proofs.Growing.{added_fresh, not_added, there}
use Rattle.vg_cost.proofs.taken.add_taken.Goals as goal

pub returns-then-is_there : goal.returns-then-is_there
returns-then-is_there c =
    let ds = described c.args.plan.now in
    let longer = all_packs c.args.plan.now in
    let old = c.args.taken.now in
    not_added (taken_for ds c.args.plan.now.ssa.now longer)
    (map (kept_for ds c.args.plan.now.ssa.now longer) old ++ c.args.fresh.now.items) c.args.operand.now
    (there ds c.args.plan.now.ssa.now longer c.args.operand.now old c.args.fresh.now.items c.is_there.result
    (c.is_there.ensures ∙ ap (λ f. list_any (λ t. same_operand c.args.operand.now t.operand) old
    || list_any (λ t. same_operand c.args.operand.now t.operand) f) c.as_slice.ensures.value)
    ∙ c.if-is_there.true)

pub returns : goal.returns
returns c =
    let ds = described c.args.plan.now in
    let longer = all_packs c.args.plan.now in
    let old = c.args.taken.now in
    added_fresh (taken_for ds c.args.plan.now.ssa.now longer) (map (kept_for ds c.args.plan.now.ssa.now longer) old)
    c.args.fresh.now.items _ c.args.operand.now (taken_of c.in_ok-operand.operand c.in_ok-recipe.recipe)
    (there ds c.args.plan.now.ssa.now longer c.args.operand.now old c.args.fresh.now.items c.is_there.result
    (c.is_there.ensures ∙ ap (λ f. list_any (λ t. same_operand c.args.operand.now t.operand) old
    || list_any (λ t. same_operand c.args.operand.now t.operand) f) c.as_slice.ensures.value)
    ∙ c.if-is_there.false)
    (ap (λ o. taken_of o c.in_ok-recipe.recipe) c.in_ok-operand.ensures ∙ ap (taken_of c.args.operand.now) c.in_ok-recipe.ensures)
    c.in_ok-push.ensures.items
