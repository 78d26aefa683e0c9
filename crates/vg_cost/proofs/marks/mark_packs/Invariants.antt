use Rattle.std.proofs.Common.{take}
use Rattle.std.specs.Prelude.{flat_map}
use Rattle.vg_shapes.specs.Pack.{units_of}
use Rattle.vg_cost.specs.Marks.{Marked}
use Rattle.vg_cost.proofs.marks.mark_packs.Given as goal

abbrev pub invariant-packs : goal.invariant-packs
invariant-packs l = Marked (flat_map units_of (take l.pack-index l.packs)) l.fn.marks l.marks
