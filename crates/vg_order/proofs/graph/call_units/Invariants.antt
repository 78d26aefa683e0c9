use Rattle.std.proofs.Common.{◌≡◌, ◌++◌, drop}
use Rattle.vg_shapes.specs.Pack.{bounds_from}
use Rattle.vg_order.specs.Graphs.{units_among}
use Rattle.vg_order.proofs.graph.call_units.Given as goal

abbrev pub invariant-lanes : goal.invariant-lanes
invariant-lanes l =
    l.units.items ++ units_among l.first l.end (bounds_from l.table l.description l.lane (drop l.lane l.lanes))
    ≡ units_among l.first l.end (bounds_from l.table l.description 0 l.lanes)
