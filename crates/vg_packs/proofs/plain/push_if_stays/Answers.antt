use Rattle.std.proofs.Common.{[], refl}
use Rattle.vg_packs.proofs.Turns.{group-left, group-pushed}
use Rattle.vg_packs.proofs.plain.push_if_stays.Goals as goal

pub returns-else-stays-clause-plan : goal.returns-else-stays-clause-plan
returns-else-stays-clause-plan c =
    group-left [] c.args.table.now c.args.ssa.now c.args.deps.now c.args.plan.now.packs.items c.args.plan.now.packs.items c.args.pack
    c.in_ok-stays.stays refl c.in_ok-stays.ensures c.if-stays.false

pub returns-in_ok-push-clause-plan : goal.returns-in_ok-push-clause-plan
returns-in_ok-push-clause-plan c =
    group-pushed [] c.args.table.now c.args.ssa.now c.args.deps.now c.args.plan.now.packs.items c.args.plan.now.packs.items c.push.new.self.packs.items
    c.args.pack c.in_ok-stays.stays refl c.in_ok-stays.ensures c.if-stays.true
    c.in_ok-push.ensures.packs
