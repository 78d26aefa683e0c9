use Rattle.std.proofs.Common.{◌≡◌, flat_map, map, take}
use Rattle.vg_shapes.specs.Description.{description_of}
use Rattle.vg_plan_text.specs.PlanText.{pack_line}
use Rattle.vg_plan_text.proofs.plan_text.print_plan.Given as goal

abbrev pub invariant-packs : goal.invariant-packs
invariant-packs l =
    l.to.items ≡ flat_map (pack_line l.params (map description_of l.descriptions) l.ssa) (take l.pack-index l.plan)
