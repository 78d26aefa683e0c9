use Rattle.std.proofs.Common.{◌≡◌, ◌∙◌, [], ◌∷◌, ap, rules, sym}
use Rattle.std.specs.Vec.Iter.{into_iter_items}
use Rattle.vg_kernel_plans.specs.Packing.{packing}
use Rattle.vg_plans.specs.PlainPlan.{with_groups}
use Rattle.vg_packs.proofs.Turns.{groups-step}
use Rattle.vg_packs.proofs.plain.push_each.Goals as goal

pub packs-preserved : goal.packs-preserved
packs-preserved c =
    let e : into_iter_items c.packs.pack-iterator ≡ c.in-Some.pack ∷ into_iter_items c.next.new.self = search rules in
    record {
      plan =
          groups-step [] c.args.table.now c.args.ssa.now c.args.deps.now c.packs.plan.packs.items c.push_if_stays.new.plan.packs.items
          (into_iter_items c.next.new.self) c.in-Some.pack c.in_ok-push_if_stays.ensures.plan
          ∙ ap (with_groups (packing [] c.args.table.now c.args.ssa.now c.args.deps.now) c.packs.plan.packs.items) (sym e)
          ∙ c.packs.invariant.plan;
      grown = c.in_ok-push_if_stays.ensures.grown;
    }
