use Rattle.std.proofs.Common.{◌≡◌, ◌∙◌, IfOk, ap, subst, map}
use Rattle.vg_shapes.specs.Description.{description_of}
use Rattle.vg_emission.specs.Program.{operands_in, program_from, program_of}
use Rattle.vg_gather.specs.Recipes.{recipe_of}
use Rattle.vg_emit.proofs.emitting.planned_program.Goals as goal

pub returns-clause-program : goal.returns-clause-program
returns-clause-program c =
    let ds = map description_of c.args.descriptions.now in
    let ssa = c.args.ssa.now in
    let table = c.args.table.now in
    let packs = c.as_slice-packs.result.now in
    let recipes =
    c.as_slice-2.ensures.value ∙ c.in_ok-recipes.ensures
    ∙ (λ i. map (recipe_of ds ssa c.args.plan.now) (c.as_slice.ensures.value i))
    ∙ ap (map (recipe_of ds ssa c.args.plan.now)) (c.in_ok-operands.ensures ∙ ap (operands_in ds table ssa) c.as_slice-packs.ensures)
    in
    subst (λ p. IfOk c.program_from.result (λ program. program ≡ p))
    ((λ i. program_from (c.in_ok-job.ensures i) (c.as_slice-3.ensures i))
    ∙ (λ i. program_of ds table ssa (c.as_slice-packs.ensures i) (recipes i) c.args.order.now))
    c.program_from.ensures.program
