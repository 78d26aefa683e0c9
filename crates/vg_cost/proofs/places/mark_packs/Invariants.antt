use Rattle.std.proofs.Common.{map, take}
use Rattle.std.specs.Prelude.{flat_map}
use Rattle.vg_shapes.specs.Description.{description_of}
use Rattle.vg_cost.specs.Marks.{Marked}
use Rattle.vg_cost.specs.Places.{places_of}
use Rattle.vg_cost.proofs.places.mark_packs.Given as goal

abbrev pub invariant-packs : goal.invariant-packs
invariant-packs l =
    Marked (flat_map (places_of (map description_of l.descriptions) l.ssa) (take l.pack-index l.packs)) l.fn.marks l.marks
