use Rattle.std.proofs.Common.{◌≡◌, map}
use Rattle.std.specs.Vec.Iter.{into_iter_items}
use Rattle.vg_kernel_plans.specs.Fed.{packing_by}
use Rattle.vg_plans.specs.Completed.{fed_for_all}
use Rattle.vg_shapes.specs.Description.{description_of}
use Rattle.vg_packs.specs.Floor.{IsGrown}
use Rattle.vg_packs.proofs.completing.feed_all.Given as goal

abbrev pub invariant-operands : goal.invariant-operands
invariant-operands l = record {
  plan :
      fed_for_all (packing_by l.groups.choice (map description_of l.descriptions) l.table l.ssa l.deps) l.plan.packs.items (into_iter_items l.operand-iterator)
      ≡ fed_for_all (packing_by l.groups.choice (map description_of l.descriptions) l.table l.ssa l.deps) l.initial.plan.packs.items l.fn.operands.items;
  grown : IsGrown l.table l.ssa l.deps l.plan;
}
