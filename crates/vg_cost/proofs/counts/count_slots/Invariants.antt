use Rattle.std.proofs.Common.{take}
use Rattle.std.specs.Prelude.{filter_map}
use Rattle.vg_kernel_plans.specs.Wants.{value_of}
use Rattle.vg_cost.specs.Moves.{Counted}
use Rattle.vg_cost.proofs.counts.count_slots.Given as goal

abbrev pub invariant-slots : goal.invariant-slots
invariant-slots l =
    Counted l.more (filter_map (λ s. value_of s.wanted) (take l.slot-index l.slots)) l.fn.counts l.counts l.fn.changed l.changed
