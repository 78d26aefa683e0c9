use Rattle.std.proofs.Common.{◌+◌, ap, arith}
use Rattle.vg_kernel_plans.specs.Producers.{lanes_for}
use Rattle.vg_packs.proofs.LaneLists.{for-more}
use Rattle.vg_packs.proofs.lanes.lanes_for.Goals as goal

pub lanes-preserved : goal.lanes-preserved
lanes-preserved c = record {
  low = omega (arith, c.lanes.invariant.low, c.lanes-test.true, c.from-low.ensures, c.ranges.width.fits);
  lanes =
      for-more c.lanes.left c.lanes.low (c.lanes.low + c.from-low.result) c.args.width c.args.slots.now
      c.lanes.lanes.items c.push.new.self.items (lanes_for c.args.count 0 c.args.width c.args.slots.now)
      c.lane_value.result c.lanes-test.true c.lane_value.ensures c.in_ok-push.ensures.items
      (ap (λ w. c.lanes.low + w) c.from-low.ensures) c.lanes.invariant.lanes;
}
