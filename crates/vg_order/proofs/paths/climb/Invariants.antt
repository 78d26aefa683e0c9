use Rattle.std.proofs.Common.{◌≡◌, ◌-◌, ◌*◌, ◌++◌, ◌∷◌, [], length}
use Rattle.std.specs.Prelude.{slice_index}
use Rattle.vg_order.specs.NextNumbers.{AreNext}
use Rattle.vg_order.specs.Paths.{count_true, IsProgress, StandsOn, StaysPlaced}
use Rattle.vg_order.proofs.paths.climb.Given as goal

abbrev pub invariant-path : goal.invariant-path
invariant-path l = record {
  valid : IsProgress l.deps l.graph l.progress;
  on_path : StandsOn l.deps l.graph l.progress l.path l.top;
  stays : StaysPlaced l.fn.progress.placed.items l.progress.placed.items;
  starts : slice_index (l.path.units.items ++ l.top ∷ []) 0 ≡ l.fn.unit;
  next : AreNext l.deps l.graph [] l.progress.order.items;
}

abbrev pub decreases-path : goal.decreases-path
decreases-path l = 2 * (length l.progress.placed.items - count_true l.progress.placed.items) - length l.path.units.items
