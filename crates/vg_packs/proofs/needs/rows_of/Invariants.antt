use Rattle.std.proofs.Common.{◌≡◌, take, flat_map}
use Rattle.vg_shapes.specs.DepList.{row_of}
use Rattle.vg_packs.proofs.needs.rows_of.Given as goal

abbrev pub invariant-units : goal.invariant-units
invariant-units l = l.needs.items ≡ flat_map (row_of l.deps) (take l.unit-index l.units)
