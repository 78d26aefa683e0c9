use Rattle.std.proofs.Common.{◌∙◌, ◌++◌, ap, map, refl}
use Rattle.std.proofs.lemmas.List.{take_all}
use Rattle.vg_cost.specs.LongerPlan.{all_packs, described}
use Rattle.vg_cost.specs.Taken.{add_all, kept_for, taken_for}
use Rattle.vg_cost.proofs.Growing.{add_all_more}
use Rattle.vg_cost.proofs.taken.add_all.Goals as goal

pub operands-init : goal.operands-init
operands-init c = refl

pub operands-preserved : goal.operands-preserved
operands-preserved c =
    let x = c.operand-item.result in
    let know = taken_for (described c.args.plan.now) c.args.plan.now.ssa.now (all_packs c.args.plan.now) in
    let kept = map (kept_for (described c.args.plan.now) c.args.plan.now.ssa.now (all_packs c.args.plan.now)) c.args.taken.now in
    add_all_more know (kept ++ c.args.fresh.now.items) _ _ c.args.operands.now c.operands.operand-index x x c.operands-test.true
    c.operand-item.is c.operands.invariant c.in_ok-add_taken.ensures

pub returns : goal.returns
returns c =
    let know = taken_for (described c.args.plan.now) c.args.plan.now.ssa.now (all_packs c.args.plan.now) in
    let kept = map (kept_for (described c.args.plan.now) c.args.plan.now.ssa.now (all_packs c.args.plan.now)) c.args.taken.now in
    c.operands.invariant
    ∙ ap (add_all know (kept ++ c.args.fresh.now.items)) (take_all c.operands.operand-index c.args.operands.now c.operands-test.false)
