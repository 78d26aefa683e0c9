use Rattle.std.proofs.Common.{◌≡◌, ◌∙◌, subst}
use Rattle.std.specs.Result.{IfOk}
use Rattle.vg_cost.specs.LongerPlan.{described}
use Rattle.vg_kernel_plans.specs.Shuffles.{shuffles}
use Rattle.vg_cost.specs.Had.{costs_had}
use Rattle.vg_cost.proofs.recipe_cost.costs_behind.Goals as goal

pub returns : goal.returns
returns c =
    let ds = described c.args.plan.now in
    subst (λ q. IfOk c.costs_among.result (λ costs. costs.items ≡ costs_had ds c.args.plan.now.ssa.now q (shuffles ds c.args.operand.now)))
    (c.as_slice.ensures.value ∙ c.in_ok-packs.ensures) c.costs_among.ensures
