use Rattle.std.proofs.Common.{◌≡◌, []}
use Rattle.std.specs.Vec.Iter.{into_iter_items}
use Rattle.vg_kernel_plans.specs.Packing.{packing}
use Rattle.vg_plans.specs.PlainPlan.{with_groups}
use Rattle.vg_packs.specs.Floor.{IsGrown}
use Rattle.vg_packs.proofs.plain.push_each.Given as goal

abbrev pub invariant-packs : goal.invariant-packs
invariant-packs l = record {
  plan : with_groups (packing [] l.table l.ssa l.deps) l.plan.packs.items (into_iter_items l.pack-iterator) ≡ with_groups (packing [] l.table l.ssa l.deps) l.initial.plan.packs.items l.fn.packs.items;
  grown : IsGrown l.table l.ssa l.deps l.plan;
}
