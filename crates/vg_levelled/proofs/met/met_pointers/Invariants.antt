use Rattle.std.proofs.Common.{◌≡◌, map}
use Rattle.vg_shapes.specs.Order.{numbers_from}
use Rattle.vg_levelled.specs.Levelled.{is_met}
use Rattle.vg_levelled.proofs.met.met_pointers.Given as goal

abbrev pub invariant-pointers : goal.invariant-pointers
invariant-pointers l = l.met.items ≡ map (is_met l.flags l.units) (numbers_from 0 l.pointer)
