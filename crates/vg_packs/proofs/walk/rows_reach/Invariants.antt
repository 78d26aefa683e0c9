use Rattle.std.proofs.Common.{◌≡◌, false, get_or, length, take}
use Rattle.std.specs.Prelude.{flat_map}
use Rattle.vg_shapes.specs.DepList.{row_of}
use Rattle.vg_packs.specs.Walk.{IsApart, node_needs}
use Rattle.vg_packs.proofs.walk.rows_reach.Given as goal

abbrev pub invariant-units : goal.invariant-units
invariant-units l =
    IsApart (node_needs l.table l.ssa l.deps l.plan) (λ v. get_or l.own v false) (flat_map (row_of l.deps) (take l.unit-index l.units)) l.marks
    × (length l.marks ≡ length l.fn.marks)
