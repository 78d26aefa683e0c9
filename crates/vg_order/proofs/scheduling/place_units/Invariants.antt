use Rattle.std.proofs.Common.{◌≡◌, ◌-◌, []}
use Rattle.vg_shapes.specs.Order.{numbers_from}
use Rattle.vg_order.specs.NextNumbers.{AreNext}
use Rattle.vg_order.specs.Paths.{AreUnitsPlaced, IsAtRest, IsProgress, IsRising}
use Rattle.vg_order.proofs.scheduling.place_units.Given as goal

abbrev pub invariant-units : goal.invariant-units
invariant-units l = record {
  valid : IsProgress l.deps l.graph l.progress;
  rest : IsAtRest l.graph l.path;
  placed : AreUnitsPlaced l.graph l.progress.placed.items l.unit;
  rising : IsRising l.deps l.graph → l.progress.order.items ≡ numbers_from 0 (l.unit - l.graph.first);
  next : AreNext l.deps l.graph [] l.progress.order.items;
}
