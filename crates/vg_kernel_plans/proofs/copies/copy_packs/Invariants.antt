use Rattle.std.proofs.Common.{◌≡◌, take}
use Rattle.vg_kernel_plans.proofs.copies.copy_packs.Given as goal

abbrev pub invariant-packs : goal.invariant-packs
invariant-packs l = l.copies.items ≡ take l.pack-index l.packs
