use Rattle.std.proofs.Common.{◌≡◌, ◌*◌, ◌^◌, ◌≤◌, drop}
use Rattle.std.specs.Cmp.Lexicographic.{pointwise}
use Rattle.vg_kernel_plans.specs.Held.{lanes_from}
use Rattle.vg_kernel_plans.specs.SameAs.{same_slot}
use Rattle.vg_packs.proofs.lanes.are_lanes.Given as goal

abbrev pub invariant-lanes : goal.invariant-lanes
invariant-lanes l = record {
  low : l.low ≤ l.lane-index * 2 ^ 32;
  same : pointwise same_slot l.left (lanes_from l.low l.width (drop l.lane-index l.lanes)) ≡ pointwise same_slot l.wanted (lanes_from 0 l.width l.lanes);
}
