use Rattle.std.proofs.Common.{◌∙◌, map}
use Rattle.vg_kernel_plans.proofs.Tables.{fed-by}
use Rattle.vg_shapes.specs.Description.{description_of}
use Rattle.vg_packs.proofs.Completion.{is-fed, not-fed}
use Rattle.vg_packs.proofs.Turns.{settled-by}
use Rattle.vg_packs.proofs.completing.feed.Goals as goal

pub returns-then-is_settled-clause-plan : goal.returns-then-is_settled-clause-plan
returns-then-is_settled-clause-plan c =
    not-fed c.args.groups.now.choice (map description_of c.args.descriptions.now) c.args.table.now c.args.ssa.now c.args.deps.now
    c.args.plan.now.packs.items c.args.operand.now
    (settled-by (map description_of c.args.descriptions.now) c.args.table.now c.args.ssa.now c.args.deps.now
    c.args.plan.now.packs.items c.packs.result.now c.args.operand.now c.is_settled.result c.packs.ensures
    c.is_settled.ensures ∙ c.if-is_settled.true)

pub returns-clause-plan : goal.returns-clause-plan
returns-clause-plan c =
    is-fed c.args.groups.now.choice (map description_of c.args.descriptions.now) c.args.table.now c.args.ssa.now c.args.deps.now
    c.args.plan.now.packs.items c.push_each.new.plan.packs.items c.in_ok-feeders.feeders.items c.args.operand.now
    (settled-by (map description_of c.args.descriptions.now) c.args.table.now c.args.ssa.now c.args.deps.now
    c.args.plan.now.packs.items c.packs.result.now c.args.operand.now c.is_settled.result c.packs.ensures
    c.is_settled.ensures ∙ c.if-is_settled.false)
    (c.in_ok-feeders.ensures ∙ fed-by c.args.ssa.now c.args.groups.now c.requires.groups c.args.operand.now)
    c.in_ok-push_each.ensures.plan
