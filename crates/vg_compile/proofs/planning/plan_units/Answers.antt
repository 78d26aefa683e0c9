use Rattle.std.proofs.Common.{map}
use Rattle.vg_shapes.specs.Depends.{dependences}
use Rattle.vg_shapes.specs.Description.{description_of}
use Rattle.vg_emit_laws.proofs.Near.{matches-are-near, packs-are-short}
use Rattle.vg_compile.proofs.Carried.{plan-grows, planned-is}
use Rattle.vg_compile.proofs.Ordered.{known, names_earlier, plain_short, plain-cost}
use Rattle.vg_compile.proofs.planning.plan_units.Goals as goal

pub plain_plan-requires-clause-earlier : goal.plain_plan-requires-clause-earlier
plain_plan-requires-clause-earlier c = names_earlier c.args.ssa.now c.in_ok-chosen.chosen.deps c.in_ok-chosen.ensures.deps

pub plain_plan-requires-clause-near : goal.plain_plan-requires-clause-near
plain_plan-requires-clause-near c =
    let ds = map description_of c.args.descriptions.now in
    let chosen = c.in_ok-chosen.ensures.plan in
    matches-are-near ds c.in_ok-chosen.chosen.table c.args.ssa.now
    (known ds c.in_ok-chosen.chosen.table c.args.ssa.now c.requires.sound c.requires.callable chosen.table.matched)

pub plan_cost-requires-clause-near : goal.plan_cost-requires-clause-near
plan_cost-requires-clause-near c =
    let ds = map description_of c.args.descriptions.now in
    let chosen = c.in_ok-chosen.ensures.plan in
    matches-are-near ds c.in_ok-chosen.chosen.table c.args.ssa.now
    (known ds c.in_ok-chosen.chosen.table c.args.ssa.now c.requires.sound c.requires.callable chosen.table.matched)

pub plan_cost-requires-2-clause-near : goal.plan_cost-requires-2-clause-near
plan_cost-requires-2-clause-near c =
    let ds = map description_of c.args.descriptions.now in
    let chosen = c.in_ok-chosen.ensures.plan in
    matches-are-near ds c.in_ok-chosen.chosen.table c.args.ssa.now
    (known ds c.in_ok-chosen.chosen.table c.args.ssa.now c.requires.sound c.requires.callable chosen.table.matched)

pub plan_cost-requires-clause-short : goal.plan_cost-requires-clause-short
plan_cost-requires-clause-short c =
    let ds = map description_of c.args.descriptions.now in
    let chosen = c.in_ok-chosen.ensures.plan in
    let all = known ds c.in_ok-chosen.chosen.table c.args.ssa.now c.requires.sound c.requires.callable chosen.table.matched in
    packs-are-short ds c.in_ok-chosen.chosen.table c.args.ssa.now c.in_ok-chosen.chosen.deps c.in_ok-chosen.chosen.plan all
    (plan-grows ds c.in_ok-chosen.chosen.table c.args.ssa.now c.in_ok-chosen.chosen.deps c.args.width c.in_ok-chosen.chosen.plan all
    c.in_ok-chosen.ensures.deps chosen)

pub plan_cost-requires-2-clause-short : goal.plan_cost-requires-2-clause-short
plan_cost-requires-2-clause-short c =
    let ds = map description_of c.args.descriptions.now in
    let chosen = c.in_ok-chosen.ensures.plan in
    plain_short ds c.in_ok-chosen.chosen.table c.args.ssa.now c.in_ok-chosen.chosen.deps c.in_ok-plain.plain
    (known ds c.in_ok-chosen.chosen.table c.args.ssa.now c.requires.sound c.requires.callable chosen.table.matched)
    c.in_ok-plain.ensures.plain

pub returns-clause-planned : goal.returns-clause-planned
returns-clause-planned c =
    let ds = map description_of c.args.descriptions.now in
    let matches = c.in_ok-chosen.chosen.table in
    let ssa = c.args.ssa.now in
    planned-is ds matches ssa c.args.width c.in_ok-chosen.chosen.plan c.in_ok-cost.cost c.in_ok-plain_cost.plain_cost
    c.in_ok-chosen.ensures.plan (c.in_ok-cost.ensures.cost (dependences ssa))
    (plain-cost ds matches ssa c.in_ok-chosen.chosen.deps c.in_ok-plain.plain c.in_ok-plain_cost.plain_cost c.in_ok-chosen.ensures.deps
    c.in_ok-plain.ensures.plain (c.in_ok-plain_cost.ensures.cost (dependences ssa)))
