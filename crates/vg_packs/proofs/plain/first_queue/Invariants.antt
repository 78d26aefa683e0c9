use Rattle.std.proofs.Common.{◌≡◌, flat_map, map, take}
use Rattle.vg_kernel_plans.specs.Taken.{operands_of}
use Rattle.vg_shapes.specs.Description.{description_of}
use Rattle.vg_packs.proofs.plain.first_queue.Given as goal

abbrev pub invariant-packs : goal.invariant-packs
invariant-packs l =
    l.queue.items
    ≡ flat_map (operands_of (map description_of l.descriptions) l.table l.ssa) (take l.pack-index l.plan)
