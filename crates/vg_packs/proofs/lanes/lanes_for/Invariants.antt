use Rattle.std.proofs.Common.{◌≡◌, ◌+◌, ◌-◌, ◌*◌, ◌^◌, ◌≤◌, ◌++◌}
use Rattle.vg_kernel_plans.specs.Producers.{lanes_for}
use Rattle.vg_packs.proofs.lanes.lanes_for.Given as goal

abbrev pub invariant-lanes : goal.invariant-lanes
invariant-lanes l = record {
  low : l.low + l.left * 2 ^ 32 ≤ 2 ^ 64 - 2 ^ 32;
  lanes : l.lanes.items ++ lanes_for l.left l.low l.width l.slots ≡ lanes_for l.count 0 l.width l.slots;
}

abbrev pub decreases-lanes : goal.decreases-lanes
decreases-lanes l = l.left
