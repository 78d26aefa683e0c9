use Rattle.std.proofs.Common.{◌≡◌, ◌++◌, [], flat_map, map, take}
use Rattle.vg_kernel_plans.specs.Fed.{packing_by}
use Rattle.vg_plans.specs.World.{tried_for}
use Rattle.vg_shapes.specs.Description.{description_of}
use Rattle.vg_packs.proofs.follows.push_for_all.Given as goal

abbrev pub invariant-operands : goal.invariant-operands
invariant-operands l =
    l.packs.items
    ≡ l.initial.packs.items ++ flat_map (tried_for (packing_by l.groups.choice (map description_of l.descriptions) l.table l.ssa [])) (take l.operand-index l.operands)
