use Rattle.std.proofs.Common.{◌≡◌, ◌-◌, ◌++◌}
use Rattle.std.specs.Prelude.{map}
use Rattle.vg_shapes.specs.Lane.{dynamic, lane_of}
use Rattle.vg_lift.specs.Lanes.{lanes_from}
use Rattle.vg_lift.proofs.listed.all_dynamic.Given as goal

abbrev pub invariant-lanes : goal.invariant-lanes
invariant-lanes l = map lane_of l.all.items ++ lanes_from (λ k. dynamic) l._lane (l.count - l._lane) ≡ lanes_from (λ k. dynamic) 0 l.count
