use Rattle.std.proofs.Common.{◌∙◌, ◌+◌, ap, length}
use Rattle.vg_cost.specs.LongerPlan.{all_packs, described}
use Rattle.vg_cost.proofs.Known.{made}
use Rattle.vg_cost.proofs.recipe_cost.made_cost.Goals as goal

pub returns : goal.returns
returns c =
    let count = ap length (c.as_slice-wanted.ensures.value ∙ c.in_ok-wanted.ensures) in
    made (described c.args.plan.now) c.args.plan.now.ssa.now (all_packs c.args.plan.now) c.args.operand.now
    c.requires.free c.requires.some c.as_slice-costs.result.now (c.as_slice-costs.ensures.value ∙ c.in_ok-costs.ensures)
    c.in_ok-inserts.inserts c.least_of.result (length c.as_slice-wanted.result.now) c.is_inserted.result
    (c.in_ok-inserts.ensures ∙ ap (λ n. 1 + n) count) count c.least_of.ensures c.is_inserted.ensures
