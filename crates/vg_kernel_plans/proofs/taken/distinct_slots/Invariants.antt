use Rattle.std.proofs.Common.{◌≡◌, [], drop}
use Rattle.vg_plans.specs.Levels.{distinct_onto}
use Rattle.vg_kernel_plans.specs.SameAs.{same_slot}
use Rattle.vg_kernel_plans.proofs.taken.distinct_slots.Given as goal

abbrev pub invariant-slots : goal.invariant-slots
invariant-slots l =
    distinct_onto same_slot l.found.items (drop l.slot-index l.slots) ≡ distinct_onto same_slot [] l.slots
