use Rattle.vg_plans.specs.World.{follows, plan_cost, same_packs}
use Rattle.vg_plans.proofs.Optimal.{optimal}
use Rattle.vg_plans.proofs.Plans.{go_by_packs}
use Rattle.vg_kernel_plans.specs.Packing.{packing, plain_of, sizes_of}
use Rattle.vg_kernel_plans.proofs.Tried.{is-packing}
use Rattle.vg_kernel_plans.proofs.law.chosen_plans_are_optimal.Goals as goal

pub returns : goal.returns
returns c ds matches ssa deps width plan is short free =
    let w = packing ds matches ssa deps in
    optimal (follows w) (same_packs w) (plan_cost w) (go_by_packs w (is-packing ds matches ssa deps))
    width (sizes_of ssa) (plain_of ds matches ssa deps) plan is short free
