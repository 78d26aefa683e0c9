use Rattle.std.proofs.Common.{◌≡◌, ◌++◌, ◌*◌, map, drop}
use Rattle.vg_shapes.specs.Units.{unit_at}
use Rattle.vg_kernel_plans.specs.Taken.{slots_from, stored}
use Rattle.vg_kernel_plans.proofs.taken.stored_slots.Given as goal

abbrev pub invariant-units : goal.invariant-units
invariant-units l = record {
  low : l.low ≡ l.unit-index * l.width;
  slots : l.slots.items ++ slots_from l.low l.width (map (λ v. stored (unit_at l.ssa v)) (drop l.unit-index l.units)) ≡ slots_from 0 l.width (map (λ v. stored (unit_at l.ssa v)) l.units);
}
