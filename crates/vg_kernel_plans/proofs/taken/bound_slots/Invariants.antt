use Rattle.std.proofs.Common.{◌≡◌, take}
use Rattle.vg_kernel_plans.specs.Taken.{bound_slots}
use Rattle.vg_kernel_plans.proofs.taken.bound_slots.Given as goal

abbrev pub invariant-bounds : goal.invariant-bounds
invariant-bounds l = l.slots.items ≡ bound_slots (take l.bound-index l.bounds) l.parameter
