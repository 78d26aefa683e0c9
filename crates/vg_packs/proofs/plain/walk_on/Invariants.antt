use Rattle.std.proofs.Common.{◌≡◌, map}
use Rattle.vg_kernel_plans.specs.Completed.{turns_of}
use Rattle.vg_kernel_plans.specs.Packing.{packing}
use Rattle.vg_plans.specs.PlainPlan.{walk}
use Rattle.vg_shapes.specs.Description.{description_of}
use Rattle.vg_packs.specs.Floor.{IsGrown}
use Rattle.vg_packs.proofs.plain.walk_on.Given as goal

abbrev pub invariant-turns : goal.invariant-turns
invariant-turns l = record {
  plan : walk (packing (map description_of l.descriptions) l.table l.ssa l.deps) l.turns l.plan.packs.items l.queue.items ≡ walk (packing (map description_of l.descriptions) l.table l.ssa l.deps) (turns_of l.ssa) l.fn.start.packs.items l.fn.waiting.items;
  grown : IsGrown l.table l.ssa l.deps l.plan;
}

abbrev pub decreases-turns : goal.decreases-turns
decreases-turns l = l.turns
