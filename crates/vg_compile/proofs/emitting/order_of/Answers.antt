use Rattle.std.proofs.Common.{map, subst}
use Rattle.vg_order.specs.Faults.{Tells}
use Rattle.vg_order.specs.Scheduled.{IsScheduled}
use Rattle.vg_shapes.specs.Description.{description_of}
use Rattle.vg_compile.proofs.Ordered.{are_packs, is_order, names_units, no_cycle}
use Rattle.vg_compile.proofs.emitting.order_of.Goals as goal

pub schedule-requires-clause-packs : goal.schedule-requires-clause-packs
schedule-requires-clause-packs c =
    are_packs (map description_of c.args.descriptions.now) c.args.table.now c.args.ssa.now c.args.deps.now c.args.plan.now c.requires.known c.requires.plan

pub schedule-requires-clause-units : goal.schedule-requires-clause-units
schedule-requires-clause-units c = names_units c.args.ssa.now c.args.deps.now c.requires.deps

pub returns-in-Ok-clause-legal : goal.returns-in-Ok-clause-legal
returns-in-Ok-clause-legal c =
    is_order c.args.table.now c.args.ssa.now c.args.deps.now c.args.plan.now c.in-Ok.order c.requires.deps c.in-Ok.ensures.order

pub returns-in-Ok-clause-scheduled : goal.returns-in-Ok-clause-scheduled
returns-in-Ok-clause-scheduled c =
    subst (λ d. IsScheduled d c.args.ssa.now c.args.table.now c.args.plan.now c.in-Ok.order) c.requires.deps c.in-Ok.ensures.scheduled

pub unreachable-requires : goal.unreachable-requires
unreachable-requires c =
    no_cycle (map description_of c.args.descriptions.now) c.args.table.now c.args.ssa.now c.args.deps.now c.args.plan.now c.in-Err-Cycle.field-0-0.items
    c.requires.deps c.requires.plan
    (subst (Tells c.args.deps.now c.args.ssa.now c.args.table.now c.args.plan.now) c.in-Err-Cycle.field-0-is c.in-Err-Cycle.ensures.cycle)
