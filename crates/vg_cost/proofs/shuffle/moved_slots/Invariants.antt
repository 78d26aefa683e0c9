use Rattle.std.proofs.Common.{◌≡◌, take}
use Rattle.std.specs.Prelude.{flat_map}
use Rattle.vg_kernel_plans.specs.Shuffles.{moved_from}
use Rattle.vg_shapes.specs.Description.{description_of}
use Rattle.vg_cost.proofs.shuffle.moved_slots.Given as goal

abbrev pub invariant-slots : goal.invariant-slots
invariant-slots l = l.moved.items ≡ flat_map (moved_from (description_of l.description)) (take l.slot-index l.slots)
