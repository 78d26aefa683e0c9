use Rattle.std.proofs.Common.{take}
use Rattle.vg_packs.specs.Walk.{Pushed}
use Rattle.vg_packs.proofs.walk.push_new.Given as goal

abbrev pub invariant-units : goal.invariant-units
invariant-units l = Pushed (take l.x-index l.list) l.fn.marks l.fn.stack.items l.marks l.stack.items
