-- what is left after what is there is what all lanes bind
use Rattle.std.proofs.Common.{◌≡◌, ◌++◌, drop}
use Rattle.vg_shapes.specs.Pack.{bounds_from}
use Rattle.vg_kernel_plans.proofs.taken.bounds_of.Given as goal

abbrev pub invariant-lanes : goal.invariant-lanes
invariant-lanes l = record {
  number : l.lane ≡ l.value-index;
  bounds : l.bounds.items ++ bounds_from l.table l.description l.value-index (drop l.value-index l.lanes) ≡ bounds_from l.table l.description 0 l.lanes;
}
