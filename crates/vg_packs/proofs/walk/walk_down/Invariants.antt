use Rattle.std.proofs.Common.{◌+◌, false, get_or, length}
use Rattle.vg_packs.specs.Walk.{count_open, node_needs}
use Rattle.vg_packs.proofs.Pushes.{Searches}
use Rattle.vg_packs.proofs.walk.walk_down.Given as goal

abbrev pub invariant-units : goal.invariant-units
invariant-units l =
    Searches (node_needs l.table l.ssa l.deps l.plan) (λ v. get_or l.own v false) (length l.fn.marks) l.fn.marks l.starts l.marks l.stack.items

abbrev pub decreases-units : goal.decreases-units
decreases-units l = count_open l.marks + length l.stack.items
