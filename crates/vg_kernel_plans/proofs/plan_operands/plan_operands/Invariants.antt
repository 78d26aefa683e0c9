use Rattle.std.proofs.Common.{◌≡◌, [], drop, map}
use Rattle.std.specs.List.{flat_map}
use Rattle.vg_plans.specs.Levels.{distinct_onto}
use Rattle.vg_shapes.specs.Description.{description_of}
use Rattle.vg_kernel_plans.specs.SameAs.{same_operand}
use Rattle.vg_kernel_plans.specs.Taken.{operands_of}
use Rattle.vg_kernel_plans.proofs.plan_operands.plan_operands.Given as goal

abbrev pub invariant-packs : goal.invariant-packs
invariant-packs l =
    distinct_onto same_operand l.found.items (flat_map (operands_of (map description_of l.descriptions) l.table l.ssa) (drop l.pack-index l.packs))
    ≡ distinct_onto same_operand [] (flat_map (operands_of (map description_of l.descriptions) l.table l.ssa) l.packs)
