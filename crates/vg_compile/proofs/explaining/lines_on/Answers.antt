use Rattle.std.proofs.Common.{◌∙◌, ap, map}
use Rattle.std.proofs.lemmas.Result.{IfOk-weaker}
use Rattle.vg_kernel.specs.Tree.{tree_of}
use Rattle.vg_plan_text.specs.PlanText.{plan_text}
use Rattle.vg_shapes.specs.Description.{description_of}
use Rattle.vg_compile.specs.Means.{param_of}
use Rattle.vg_compile.proofs.explaining.lines_on.Goals as goal

pub returns : goal.returns
returns c =
    let ds = map description_of c.args.descriptions.now in
    let packs = c.args.planned.now.chosen.plan in
    let scalar = c.from.ensures ∙ c.scalar_cost.ensures in
    let params = c.as_slice-2.ensures.value ∙ c.in_ok-params.ensures ∙ ap (map param_of) c.as_slice.ensures in
    IfOk-weaker c.print_plan.result _ _
    (λ text is. is ∙ ap (λ ps. plan_text ps ds c.args.ssa.now packs (record { plan = c.args.planned.now.cost; plain = c.args.plain; scalar = c.from.result })) params
    ∙ ap (λ n. plan_text (map param_of (tree_of c.args.kernel.now).params) ds c.args.ssa.now packs (record { plan = c.args.planned.now.cost; plain = c.args.plain; scalar = n })) scalar)
    c.print_plan.ensures
