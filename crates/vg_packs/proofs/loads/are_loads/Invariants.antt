use Rattle.std.proofs.Common.{◌≡◌, ◌*◌, ◌^◌, ◌≤◌, drop}
use Rattle.vg_kernel_plans.specs.Producers.{are_loads}
use Rattle.vg_shapes.specs.Pack.{behind}
use Rattle.vg_packs.proofs.loads.are_loads.Given as goal

abbrev pub invariant-units : goal.invariant-units
invariant-units l = record {
  bytes : l.bytes ≤ l.unit-index * 2 ^ 32;
  same : are_loads l.ssa (behind l.first l.bytes) l.width (drop l.unit-index l.units) ≡ are_loads l.ssa l.first l.width l.units;
}
