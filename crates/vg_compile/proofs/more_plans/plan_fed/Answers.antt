use Rattle.std.proofs.Common.{map}
use Rattle.vg_shapes.specs.Depends.{dependences}
use Rattle.vg_shapes.specs.Description.{description_of}
use Rattle.vg_emit_laws.proofs.Near.{matches-are-near}
use Rattle.vg_compile.proofs.Carried.{chosen-fed-plan, picked-fed-by}
use Rattle.vg_compile.proofs.Ordered.{known, names_earlier, short_fed}
use Rattle.vg_compile.proofs.more_plans.plan_fed.Goals as goal

pub choose_fed-requires-clause-near : goal.choose_fed-requires-clause-near
choose_fed-requires-clause-near c =
    let ds = map description_of c.args.descriptions.now in
    let v = c.args.values.now in
    matches-are-near ds v.planned.chosen.table v.ssa
    (known ds v.planned.chosen.table v.ssa c.requires.sound c.requires.callable c.requires.table.matched)

pub choose_fed-requires-clause-earlier : goal.choose_fed-requires-clause-earlier
choose_fed-requires-clause-earlier c = names_earlier c.args.values.now.ssa c.args.values.now.planned.chosen.deps c.requires.deps

pub choose_fed-requires-clause-short : goal.choose_fed-requires-clause-short
choose_fed-requires-clause-short c =
    let ds = map description_of c.args.descriptions.now in
    let v = c.args.values.now in
    short_fed ds v.planned.chosen.table v.ssa v.planned.chosen.deps
    (known ds v.planned.chosen.table v.ssa c.requires.sound c.requires.callable c.requires.table.matched)

pub plan_cost-requires-clause-near : goal.plan_cost-requires-clause-near
plan_cost-requires-clause-near c =
    let ds = map description_of c.args.descriptions.now in
    let v = c.args.values.now in
    matches-are-near ds v.planned.chosen.table v.ssa
    (known ds v.planned.chosen.table v.ssa c.requires.sound c.requires.callable c.requires.table.matched)

pub plan_cost-requires-clause-short : goal.plan_cost-requires-clause-short
plan_cost-requires-clause-short c =
    let ds = map description_of c.args.descriptions.now in
    let v = c.args.values.now in
    short_fed ds v.planned.chosen.table v.ssa v.planned.chosen.deps
    (known ds v.planned.chosen.table v.ssa c.requires.sound c.requires.callable c.requires.table.matched)
    c.in_ok-plan.plan c.in_ok-plan.ensures.chosen.plan

pub returns-clause-chosen : goal.returns-clause-chosen
returns-clause-chosen c =
    let ds = map description_of c.args.descriptions.now in
    let v = c.args.values.now in
    chosen-fed-plan ds v.planned.chosen.table v.ssa c.args.width c.in_ok-plan.plan
    (known ds v.planned.chosen.table v.ssa c.requires.sound c.requires.callable c.requires.table.matched) c.requires.table
    (picked-fed-by ds v.planned.chosen.table v.ssa v.planned.chosen.deps c.args.width c.in_ok-plan.plan c.requires.deps
    c.in_ok-plan.ensures.plan c.in_ok-plan.ensures.chosen)

pub returns-clause-cost : goal.returns-clause-cost
returns-clause-cost c = c.in_ok-cost.ensures.cost (dependences c.args.values.now.ssa)
