use Rattle.std.proofs.Common.{◌≡◌, ◌++◌}
use Rattle.std.specs.Vec.Iter.{into_iter_items}
use Rattle.vg_packs.proofs.plain.push_all.Given as goal

abbrev pub invariant-operands : goal.invariant-operands
invariant-operands l =
    l.queue.items ++ into_iter_items l.operand-iterator ≡ l.initial.queue.items ++ l.fn.operands.items
