use Rattle.std.proofs.Common.{◌≡◌}
use Rattle.vg_emit.specs.Marks.{with_uses_below}
use Rattle.vg_emit.proofs.needed.mark_all_uses.Given as goal

abbrev pub invariant-units : goal.invariant-units
invariant-units l =
    with_uses_below l.ssa l.packed l.marks l.left ≡ with_uses_below l.ssa l.packed l.fn.marks l.count

abbrev pub decreases-units : goal.decreases-units
decreases-units l = l.left
