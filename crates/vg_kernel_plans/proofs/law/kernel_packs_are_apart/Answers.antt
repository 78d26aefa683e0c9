use Rattle.vg_plans.proofs.Disjoint.{one-pack}
use Rattle.vg_kernel_plans.specs.Packing.{packing}
use Rattle.vg_kernel_plans.proofs.Tried.{is-packing}
use Rattle.vg_kernel_plans.proofs.law.kernel_packs_are_apart.Goals as goal

pub returns : goal.returns
returns c ds matches ssa deps plan is p q v a b t u =
    one-pack (packing ds matches ssa deps) (is-packing ds matches ssa deps) plan is p q v a b t u
