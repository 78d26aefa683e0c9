use Rattle.std.proofs.Common.{◌∙◌, ap, arith, map, sym}
use Rattle.vg_plans.specs.World.{plan_cost}
use Rattle.vg_kernel_plans.specs.Packing.{packing}
use Rattle.vg_shapes.specs.Description.{description_of}
use Rattle.vg_cost.proofs.Counted.{costs-none, none-empty}
use Rattle.vg_cost.proofs.apart.cost_apart.Goals as goal

pub returns-in_ok-cost-in-None : goal.returns-in_ok-cost-in-None
returns-in_ok-cost-in-None c =
    let ds = map description_of c.args.descriptions.now in
    let matches = c.args.table.now in
    let ssa = c.args.ssa.now in
    let none = none-empty c.args.plan.now c.split_last.result _ c.split_last.ensures.cases c.in-None.is in
    λ deps.
    costs-none ds matches ssa deps c.in_ok-cost-in-None.cost (let e = c.in_ok-cost-in-None.ensures in omega (arith, e))
    ∙ ap (plan_cost (packing ds matches ssa deps)) (sym none)
