use Rattle.std.proofs.Common.{◌∙◌, map, refl}
use Rattle.vg_shapes.specs.Description.{description_of}
use Rattle.vg_packs.proofs.Turns.{found-first, settled-by, some-stays, turn-none, turn-settled, turn-some}
use Rattle.vg_packs.proofs.plain.turn.Goals as goal

pub returns-then-is_settled-clause-turn : goal.returns-then-is_settled-clause-turn
returns-then-is_settled-clause-turn c =
    turn-settled (map description_of c.args.descriptions.now) c.args.table.now c.args.ssa.now c.args.deps.now
    c.args.plan.now.packs.items c.args.operand.now c.args.queue.now.items
    (settled-by (map description_of c.args.descriptions.now) c.args.table.now c.args.ssa.now c.args.deps.now
    c.args.plan.now.packs.items c.packs.result.now c.args.operand.now c.is_settled.result c.packs.ensures
    c.is_settled.ensures ∙ c.if-is_settled.true)

pub returns-in-None-clause-turn : goal.returns-in-None-clause-turn
returns-in-None-clause-turn c =
    turn-none (map description_of c.args.descriptions.now) c.args.table.now c.args.ssa.now c.args.deps.now
    c.args.plan.now.packs.items c.args.operand.now c.args.queue.now.items c.in_ok-found.found
    (settled-by (map description_of c.args.descriptions.now) c.args.table.now c.args.ssa.now c.args.deps.now
    c.args.plan.now.packs.items c.packs.result.now c.args.operand.now c.is_settled.result c.packs.ensures
    c.is_settled.ensures ∙ c.if-is_settled.false)
    (found-first (map description_of c.args.descriptions.now) c.args.table.now c.args.ssa.now c.args.deps.now
    c.args.plan.now.packs.items c.args.plan.now.packs.items c.in_ok-packs.packs.items c.args.operand.now c.in_ok-found.found
    refl c.in_ok-packs.ensures c.in_ok-found.ensures)
    c.in-None.is

pub returns-in_ok-push-in-Some-clause-turn : goal.returns-in_ok-push-in-Some-clause-turn
returns-in_ok-push-in-Some-clause-turn c =
    turn-some (map description_of c.args.descriptions.now) c.args.table.now c.args.ssa.now c.args.deps.now
    c.args.plan.now.packs.items c.push.new.self.packs.items c.args.operand.now c.args.queue.now.items
    c.push_operands.new.queue.items c.in_ok-found.found c.in-Some.pack
    (settled-by (map description_of c.args.descriptions.now) c.args.table.now c.args.ssa.now c.args.deps.now
    c.args.plan.now.packs.items c.packs.result.now c.args.operand.now c.is_settled.result c.packs.ensures
    c.is_settled.ensures ∙ c.if-is_settled.false)
    (found-first (map description_of c.args.descriptions.now) c.args.table.now c.args.ssa.now c.args.deps.now
    c.args.plan.now.packs.items c.args.plan.now.packs.items c.in_ok-packs.packs.items c.args.operand.now c.in_ok-found.found
    refl c.in_ok-packs.ensures c.in_ok-found.ensures)
    c.in-Some.is c.in_ok-push-in-Some.ensures.packs c.in_ok-push_operands-in-Some.ensures

pub push-requires-clause-stays : goal.push-requires-clause-stays
push-requires-clause-stays c =
    some-stays (map description_of c.args.descriptions.now) c.args.table.now c.args.ssa.now c.args.deps.now c.args.plan.now.packs.items c.in_ok-packs.packs.items
    c.in_ok-found.found c.in-Some.pack c.in_ok-found.ensures c.in-Some.is
