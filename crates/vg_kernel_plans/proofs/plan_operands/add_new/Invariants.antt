use Rattle.std.proofs.Common.{◌≡◌}
use Rattle.std.specs.Vec.Iter.{into_iter_items}
use Rattle.vg_plans.specs.Levels.{distinct_onto}
use Rattle.vg_kernel_plans.specs.SameAs.{same_operand}
use Rattle.vg_kernel_plans.proofs.plan_operands.add_new.Given as goal

abbrev pub invariant-operands : goal.invariant-operands
invariant-operands l =
    distinct_onto same_operand l.operands.items (into_iter_items l.operand-iterator)
    ≡ distinct_onto same_operand l.initial.operands.items l.fn.more.items
