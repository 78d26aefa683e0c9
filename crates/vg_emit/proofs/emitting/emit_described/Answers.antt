use Rattle.std.proofs.Common.{map}
use Rattle.vg_plans.specs.World.{plan_cost}
use Rattle.vg_program.specs.Cost.{cost_of}
use Rattle.vg_program.specs.Valid.{KeepsRules}
use Rattle.vg_shapes.specs.Description.{description_of}
use Rattle.vg_kernel_plans.specs.Packing.{packing}
use Rattle.std.specs.Prelude.{◌≡◌}
use Rattle.vg_emission.specs.Fit.{CallsDescribed}
use Rattle.vg_emission.specs.Laws.{MeansUnits}
use Rattle.vg_emission.proofs.Described.{emitted-calls-described}
use Rattle.vg_emission.proofs.Meanings.{emitted-means-units}
use Rattle.vg_emission.proofs.PlanTotals.{emitted-costs-the-plan}
use Rattle.vg_emission.proofs.Rules.{emitted-keeps-rules}
use Rattle.vg_gather.specs.Recipes.{recipes_of}
use Rattle.vg_gather.proofs.Jobs.{plans-count-recipes}
use Rattle.vg_gather.specs.Recipes.{planned_program}
use Rattle.vg_emit.proofs.Promised.{kept, kept-small}
use Rattle.vg_emit.proofs.emitting.emit_described.Goals as goal

pub returns-clause-means : goal.returns-clause-means
returns-clause-means c = λ called planned order keeps.
    let ds = map description_of c.args.descriptions.now in
    let table = c.args.table.now in
    let ssa = c.args.ssa.now in
    let plan = c.args.plan.now in
    kept c.planned_program.result (planned_program ds table ssa plan c.args.order.now) (λ p. MeansUnits called p ssa) c.planned_program.ensures.program
    (emitted-means-units called ds table ssa plan (recipes_of ds table ssa plan) c.args.order.now planned order keeps)

pub returns-clause-cost : goal.returns-clause-cost
returns-clause-cost c = λ deps planned order.
    let ds = map description_of c.args.descriptions.now in
    let table = c.args.table.now in
    let ssa = c.args.ssa.now in
    let plan = c.args.plan.now in
    kept c.planned_program.result (planned_program ds table ssa plan c.args.order.now) (λ p. cost_of p ≡ plan_cost (packing ds table ssa deps) plan) c.planned_program.ensures.program
    (emitted-costs-the-plan ds table ssa deps plan (recipes_of ds table ssa plan) c.args.order.now planned order (plans-count-recipes ds table ssa deps plan))

pub returns-clause-rules : goal.returns-clause-rules
returns-clause-rules c = λ headers planned order fit.
    let ds = map description_of c.args.descriptions.now in
    let table = c.args.table.now in
    let ssa = c.args.ssa.now in
    let plan = c.args.plan.now in
    kept-small c.planned_program.result (planned_program ds table ssa plan c.args.order.now) (KeepsRules headers) c.planned_program.ensures.program c.planned_program.ensures.small
    (emitted-keeps-rules headers ds table ssa plan (recipes_of ds table ssa plan) c.args.order.now planned order fit)

pub returns-clause-calls : goal.returns-clause-calls
returns-clause-calls c = λ headers planned order fit.
    let ds = map description_of c.args.descriptions.now in
    let table = c.args.table.now in
    let ssa = c.args.ssa.now in
    let plan = c.args.plan.now in
    kept c.planned_program.result (planned_program ds table ssa plan c.args.order.now) (λ p. CallsDescribed ds p.lines) c.planned_program.ensures.program
    (emitted-calls-described headers ds table ssa plan (recipes_of ds table ssa plan) c.args.order.now planned order fit)
