use Rattle.std.proofs.Common.{◌≡◌, ◌++◌, ◌-◌, map}
use Rattle.vg_shapes.specs.declared.order.Node.TheVariants.{UnitAt}
use Rattle.vg_shapes.specs.Order.{numbers_from}
use Rattle.vg_emit.proofs.program.in_number_order.Given as goal

abbrev pub invariant-units : goal.invariant-units
invariant-units l =
    l.nodes.items ++ map UnitAt (numbers_from l.unit (l.end - l.unit))
    ≡ map UnitAt (numbers_from l.first (l.end - l.first))
