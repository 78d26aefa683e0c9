use Rattle.vg_plans.proofs.Plans.{go_by_packs}
use Rattle.vg_kernel_plans.specs.Packing.{packing}
use Rattle.vg_kernel_plans.proofs.Tried.{is-packing}
use Rattle.vg_kernel_plans.proofs.law.kernel_plans_go_by_packs.Goals as goal

pub returns : goal.returns
returns c ds matches ssa deps = go_by_packs (packing ds matches ssa deps) (is-packing ds matches ssa deps)
