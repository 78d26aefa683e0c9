use Rattle.std.proofs.Common.{map}
use Rattle.vg_shapes.specs.Description.{description_of}
use Rattle.vg_compile.proofs.Carried.{chosen-plan, picked-by}
use Rattle.vg_emit_laws.proofs.Near.{matches-are-near}
use Rattle.vg_compile.proofs.Ordered.{known, short_packs}
use Rattle.vg_compile.proofs.choosing.choose_plan.Goals as goal

pub choose-requires-clause-near : goal.choose-requires-clause-near
choose-requires-clause-near c =
    let ds = map description_of c.args.descriptions.now in
    matches-are-near ds c.in_ok-table.table c.args.ssa.now
    (known ds c.in_ok-table.table c.args.ssa.now c.requires.sound c.requires.callable c.in_ok-table.ensures.matches)

pub choose-requires-clause-short : goal.choose-requires-clause-short
choose-requires-clause-short c =
    let ds = map description_of c.args.descriptions.now in
    short_packs ds c.in_ok-table.table c.args.ssa.now c.in_ok-deps.deps
    (known ds c.in_ok-table.table c.args.ssa.now c.requires.sound c.requires.callable c.in_ok-table.ensures.matches)

pub returns-clause-plan : goal.returns-clause-plan
returns-clause-plan c =
    let ds = map description_of c.args.descriptions.now in
    let matches = c.in_ok-table.table in
    let ssa = c.args.ssa.now in
    chosen-plan ds matches ssa c.args.width c.in_ok-plan.plan
    (known ds matches ssa c.requires.sound c.requires.callable c.in_ok-table.ensures.matches) c.in_ok-table.ensures.order
    c.in_ok-table.ensures.bindings
    (picked-by ds matches ssa c.in_ok-deps.deps c.args.width c.in_ok-plan.plan c.in_ok-deps.ensures.exact
    c.in_ok-plan.ensures.plan c.in_ok-plan.ensures.chosen)
