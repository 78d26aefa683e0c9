use Rattle.std.proofs.Common.{◌≡◌, [], length}
use Rattle.vg_order.specs.NextNumbers.{AreNext}
use Rattle.vg_order.specs.Paths.{AreAllPlaced, AreUnitsPlaced, IsProgress}
use Rattle.vg_order.proofs.scheduling.place_rest.Given as goal

abbrev pub invariant-nodes : goal.invariant-nodes
invariant-nodes l = record {
  valid : IsProgress l.deps l.graph l.progress;
  units : AreUnitsPlaced l.graph l.progress.placed.items (length l.graph.homes);
  placed : AreAllPlaced l.progress.placed.items l.node;
  same : AreAllPlaced l.fn.progress.placed.items (length l.graph.needs) → (l.progress.order.items ≡ l.fn.progress.order.items) × AreAllPlaced l.progress.placed.items (length l.graph.needs);
  next : AreNext l.deps l.graph [] l.progress.order.items;
}
