use Rattle.std.proofs.Common.{◌≡◌, ℕ, length, take, Some, None}
use Rattle.std.specs.Prelude.{slice_index_or}
use Rattle.vg_shapes.specs.Order.{count_of, Stands}
use Rattle.vg_order.proofs.graph.own.Given as goal

abbrev pub invariant-loop-k : goal.invariant-loop-k
invariant-loop-k l = record {
  theirs : (x : ℕ) → Stands x (take l.k l.units) → slice_index_or l.owners.items x None ≡ Some l.pack;
  others : (x : ℕ) → count_of x (take l.k l.units) ≡ 0 → slice_index_or l.owners.items x None ≡ slice_index_or l.fn.owners.items x None;
  long : length l.owners.items ≡ length l.fn.owners.items;
}
