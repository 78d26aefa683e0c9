use Rattle.std.proofs.Common.{arith}
use Rattle.vg_plans.proofs.Disjoint.{at-most-units}
use Rattle.vg_plans.proofs.Reach.{in-has}
use Rattle.vg_shapes.specs.Pack.{units_of}
use Rattle.vg_kernel_plans.specs.Packing.{packing}
use Rattle.vg_kernel_plans.proofs.Inside.{tried-inside, units-counted, units-listed}
use Rattle.vg_kernel_plans.proofs.Tried.{is-packing}
use Rattle.vg_kernel_plans.proofs.law.kernel_plans_are_short.Goals as goal

pub returns : goal.returns
returns c ds matches ssa deps plan m is =
    let short = at-most-units (packing ds matches ssa deps) (is-packing ds matches ssa deps)
    (λ p v before h t. units-listed ssa v (tried-inside ds matches ssa deps m before p h v (in-has v (units_of p) t)))
    plan is
    in
    omega (arith, short, units-counted ssa)
