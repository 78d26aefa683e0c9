use Rattle.std.proofs.Common.{map}
use Rattle.vg_kernel_plans.specs.Completed.{turns_of}
use Rattle.vg_kernel_plans.specs.Packing.{packing}
use Rattle.vg_plans.specs.PlainPlan.{walk}
use Rattle.vg_shapes.specs.Description.{description_of}
use Rattle.vg_packs.proofs.Turns.{walk-ends, walk-goes, walk-stops}
use Rattle.vg_packs.proofs.plain.walk_on.Goals as goal

pub returns-in-None-clause-plan : goal.returns-in-None-clause-plan
returns-in-None-clause-plan c =
    walk-ends (map description_of c.args.descriptions.now) c.args.table.now c.args.ssa.now c.args.deps.now c.turns.turns c.turns.plan.packs.items
    (walk (packing (map description_of c.args.descriptions.now) c.args.table.now c.args.ssa.now c.args.deps.now) (turns_of c.args.ssa.now) c.args.start.packs.items c.args.waiting.items)
    c.turns.queue.items c.pop_front.new.self.items c.in-None.ensures.items c.in-None.ensures.rest
    c.turns.invariant.plan

pub turns-preserved : goal.turns-preserved
turns-preserved c = record {
  plan =
      walk-goes (map description_of c.args.descriptions.now) c.args.table.now c.args.ssa.now c.args.deps.now c.turns.turns c.turns.plan.packs.items
      c.turn.new.plan.packs.items
      (walk (packing (map description_of c.args.descriptions.now) c.args.table.now c.args.ssa.now c.args.deps.now) (turns_of c.args.ssa.now) c.args.start.packs.items c.args.waiting.items)
      c.in-Some.operand c.turns.queue.items c.pop_front.new.self.items
      c.turn.new.queue.items c.turns-test.true c.in-Some.ensures.items c.in_ok-turn-in-Some.ensures.turn
      c.turns.invariant.plan;
  grown = c.in_ok-turn-in-Some.ensures.grown;
}

pub returns-clause-plan : goal.returns-clause-plan
returns-clause-plan c =
    walk-stops (map description_of c.args.descriptions.now) c.args.table.now c.args.ssa.now c.args.deps.now c.turns.turns c.turns.plan.packs.items
    (walk (packing (map description_of c.args.descriptions.now) c.args.table.now c.args.ssa.now c.args.deps.now) (turns_of c.args.ssa.now) c.args.start.packs.items c.args.waiting.items)
    c.turns.queue.items c.turns-test.false c.turns.invariant.plan
