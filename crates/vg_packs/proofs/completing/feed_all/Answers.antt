use Rattle.std.proofs.Common.{◌≡◌, ◌∙◌, ◌∷◌, ap, map, rules, sym}
use Rattle.std.specs.Vec.Iter.{into_iter_items}
use Rattle.vg_kernel_plans.specs.Fed.{packing_by}
use Rattle.vg_plans.specs.Completed.{fed_for_all}
use Rattle.vg_shapes.specs.Description.{description_of}
use Rattle.vg_packs.proofs.Completion.{fed-more}
use Rattle.vg_packs.proofs.completing.feed_all.Goals as goal

pub operands-preserved : goal.operands-preserved
operands-preserved c =
    let e : into_iter_items c.operands.operand-iterator ≡ c.in-Some.operand ∷ into_iter_items c.next.new.self = search rules in
    record {
      plan =
          fed-more c.args.groups.now.choice (map description_of c.args.descriptions.now) c.args.table.now c.args.ssa.now c.args.deps.now
          c.operands.plan.packs.items c.feed.new.plan.packs.items c.in-Some.operand (into_iter_items c.next.new.self) c.in_ok-feed.ensures.plan
          ∙ ap (fed_for_all (packing_by c.args.groups.now.choice (map description_of c.args.descriptions.now) c.args.table.now c.args.ssa.now c.args.deps.now) c.operands.plan.packs.items) (sym e)
          ∙ c.operands.invariant.plan;
      grown = c.in_ok-feed.ensures.grown;
    }
