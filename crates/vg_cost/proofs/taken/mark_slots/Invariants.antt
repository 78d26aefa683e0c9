use Rattle.std.proofs.Common.{take}
use Rattle.std.specs.Prelude.{filter_map}
use Rattle.vg_kernel_plans.specs.Wants.{value_of}
use Rattle.vg_cost.specs.Marks.{Marked}
use Rattle.vg_cost.proofs.taken.mark_slots.Given as goal

abbrev pub invariant-slots : goal.invariant-slots
invariant-slots l = Marked (filter_map (λ s. value_of s.wanted) (take l.slot-index l.slots)) l.fn.needed l.needed
