use Rattle.std.proofs.Common.{◌≡◌, drop}
use Rattle.vg_kernel_plans.specs.Producers.{are_matched}
use Rattle.vg_packs.proofs.lanes.are_matched.Given as goal

abbrev pub invariant-lanes : goal.invariant-lanes
invariant-lanes l = record {
  number : l.lane ≡ l.value-index;
  same : are_matched l.table l.description l.lane (drop l.value-index l.lanes) ≡ are_matched l.table l.description 0 l.lanes;
}
