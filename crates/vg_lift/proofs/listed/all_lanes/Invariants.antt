use Rattle.std.proofs.Common.{◌≡◌, ◌-◌, ◌++◌}
use Rattle.std.specs.Prelude.{map}
use Rattle.vg_pool.specs.Pool.{Keeps}
use Rattle.vg_shapes.specs.Lane.{lane_of}
use Rattle.vg_lift.specs.Lanes.{lanes_from, sized}
use Rattle.vg_lift.specs.LaneTerm as terms
use Rattle.vg_lift.specs.Views.{bits_of}
use Rattle.vg_lift.proofs.listed.all_lanes.Given as goal

abbrev pub invariant-lanes : goal.invariant-lanes
invariant-lanes l = record {
  is : map lane_of l.all.items ++ lanes_from (λ k. sized (terms.lane_of (bits_of l.initial.pool l.lifted.bits) l.width k)) l.lane (l.count - l.lane)
      ≡ lanes_from (λ k. sized (terms.lane_of (bits_of l.initial.pool l.lifted.bits) l.width k)) 0 l.count;
  keeps : Keeps l.initial.pool l.pool;
}
