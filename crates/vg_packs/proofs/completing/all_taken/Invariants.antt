use Rattle.std.proofs.Common.{◌≡◌, flat_map, map, take}
use Rattle.vg_kernel_plans.specs.Taken.{operands_of}
use Rattle.vg_shapes.specs.Description.{description_of}
use Rattle.vg_packs.proofs.completing.all_taken.Given as goal

abbrev pub invariant-packs : goal.invariant-packs
invariant-packs l =
    l.operands.items
    ≡ flat_map (operands_of (map description_of l.descriptions) l.table l.ssa) (take l.pack-index l.plan)
