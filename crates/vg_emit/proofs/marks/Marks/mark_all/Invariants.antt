use Rattle.std.proofs.Common.{◌≡◌, drop}
use Rattle.vg_emit.specs.Marks.{marked}
use Rattle.vg_emit.proofs.marks.Marks.mark_all.Given as goal

abbrev pub invariant-numbers : goal.invariant-numbers
invariant-numbers l = marked l.self (drop l.number-index l.numbers) ≡ marked l.fn.self l.numbers
