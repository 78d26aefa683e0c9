use Rattle.std.proofs.Common.{map}
use Rattle.std.proofs.lemmas.Result.{IfOk-weaker}
use Rattle.vg_shapes.specs.Description.{description_of}
use Rattle.vg_compile.proofs.Carried.{emitted-for, plan-grows}
use Rattle.vg_compile.proofs.Ordered.{known}
use Rattle.vg_compile.proofs.units.compile_units.Goals as goal

pub emit_plan-requires-clause-known : goal.emit_plan-requires-clause-known
emit_plan-requires-clause-known c =
    let chosen = c.in_ok-chosen.ensures.plan in
    known (map description_of c.args.descriptions.now) c.in_ok-chosen.chosen.table c.args.ssa.now c.requires.sound c.requires.callable
    chosen.table.matched

pub emit_plan-requires-clause-plan : goal.emit_plan-requires-clause-plan
emit_plan-requires-clause-plan c =
    let ds = map description_of c.args.descriptions.now in
    let chosen = c.in_ok-chosen.ensures.plan in
    let all = known ds c.in_ok-chosen.chosen.table c.args.ssa.now c.requires.sound c.requires.callable chosen.table.matched in
    plan-grows ds c.in_ok-chosen.chosen.table c.args.ssa.now c.in_ok-chosen.chosen.deps c.args.width c.in_ok-chosen.chosen.plan all
    c.in_ok-chosen.ensures.deps chosen

pub returns : goal.returns
returns c =
    let ds = map description_of c.args.descriptions.now in
    let chosen = c.in_ok-chosen.ensures.plan in
    let all = known ds c.in_ok-chosen.chosen.table c.args.ssa.now c.requires.sound c.requires.callable chosen.table.matched in
    IfOk-weaker c.emit_plan.result _ _
    (λ p is. emitted-for ds c.in_ok-chosen.chosen.table c.args.ssa.now c.args.width c.in_ok-chosen.chosen.plan p all chosen is)
    c.emit_plan.ensures
