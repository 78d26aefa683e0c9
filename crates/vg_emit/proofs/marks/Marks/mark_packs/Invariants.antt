use Rattle.std.proofs.Common.{◌≡◌, drop}
use Rattle.std.specs.Prelude.{flat_map}
use Rattle.vg_shapes.specs.Pack.{units_of}
use Rattle.vg_emit.specs.Marks.{marked}
use Rattle.vg_emit.proofs.marks.Marks.mark_packs.Given as goal

abbrev pub invariant-packs : goal.invariant-packs
invariant-packs l =
    marked l.self (flat_map units_of (drop l.pack-index l.packs))
    ≡ marked l.fn.self (flat_map units_of l.packs)
