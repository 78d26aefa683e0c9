use Rattle.std.proofs.Common.{◌≡◌, [], map, take}
use Rattle.vg_kernel_plans.specs.Fed.{packing_by, unfed}
use Rattle.vg_plans.specs.World.{tried}
use Rattle.vg_shapes.specs.Description.{description_of}
use Rattle.vg_packs.proofs.follows.tried.Given as goal

abbrev pub invariant-plan : goal.invariant-plan
invariant-plan l =
    l.packs.items
    ≡ tried (packing_by unfed (map description_of l.descriptions) l.table l.ssa []) (take l.pack-index l.plan)
