use Rattle.std.proofs.Common.{◌≡◌, []}
use Rattle.std.specs.Prelude.{find}
use Rattle.std.specs.Vec.Iter.{into_iter_items}
use Rattle.vg_kernel_plans.specs.Packing.{packing}
use Rattle.vg_plans.specs.World.{stays_plan}
use Rattle.vg_packs.proofs.plain.first_that_stays.Given as goal

abbrev pub invariant-packs : goal.invariant-packs
invariant-packs l =
    find (stays_plan (packing [] l.table l.ssa l.deps) l.plan.packs.items) (into_iter_items l.pack-iterator)
    ≡ find (stays_plan (packing [] l.table l.ssa l.deps) l.plan.packs.items) l.fn.packs.items
