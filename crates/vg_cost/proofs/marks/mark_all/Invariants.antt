use Rattle.std.proofs.Common.{take}
use Rattle.vg_cost.specs.Marks.{Marked}
use Rattle.vg_cost.proofs.marks.mark_all.Given as goal

abbrev pub invariant-numbers : goal.invariant-numbers
invariant-numbers l = Marked (take l.number-index l.numbers) l.fn.marks l.marks
