use Rattle.std.proofs.Common.{get_or, map}
use Rattle.std.proofs.lemmas.List.{take_more}
use Rattle.vg_shapes.specs.Description.{description_of}
use Rattle.vg_packs.proofs.Tries.{tried-more}
use Rattle.vg_packs.proofs.follows.tried.Goals as goal

pub plan-preserved : goal.plan-preserved
plan-preserved c =
    tried-more c.in_ok-groups.groups.choice (map description_of c.args.descriptions.now) c.args.table.now c.args.ssa.now
    _ _ c.plan.packs.items c.push_tried.new.packs.items
    c.pack-item.result (get_or c.args.plan.now c.plan.pack-index c.pack-item.result)
    c.in_ok-groups.ensures.choice c.plan.invariant c.pack-item.is
    (take_more c.args.plan.now c.plan.pack-index c.pack-item.result c.plan-test.true)
    c.in_ok-push_tried.ensures
