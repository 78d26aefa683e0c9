use Rattle.std.proofs.Common.{refl}
use Rattle.vg_kernel_plans.proofs.law.small_kernels_have_groups.Goals as goal

pub returns : goal.returns
returns c = record {
  loads = record { narrow = refl; half = refl; wide = refl; other = refl; fed = refl; unfed = refl; apart = refl };
  words = refl;
  stores = refl;
}
