use Rattle.vg_cost.specs.LongerPlan.{all_packs, described}
use Rattle.vg_cost.specs.Taken.{kept_for}
use Rattle.vg_cost.specs.Touch.{IsKnownBy}
use Rattle.vg_cost.proofs.Steps.{all_at, map_all, map_more}
use Rattle.vg_cost.proofs.taken.keep_all.Goals as goal

pub keep-requires : goal.keep-requires
keep-requires c = record {
  plan = c.requires.plan;
  known = all_at (IsKnownBy (described c.args.plan.now) c.args.plan.now.ssa.now
      (all_packs c.args.plan.now) c.args.plan.now.own.now)
      c.args.taken.now c.taken.one-index c.one-item.result c.one-item.result c.requires.known c.taken-test.true c.one-item.is;
}

pub taken-preserved : goal.taken-preserved
taken-preserved c =
    map_more c.args.taken.now c.taken.one-index c.one-item.result c.one-item.result c.taken-test.true c.one-item.is
    (kept_for (described c.args.plan.now) c.args.plan.now.ssa.now (all_packs c.args.plan.now)) _ _ _
    c.taken.invariant c.in_ok-longer.ensures c.in_ok-push.ensures.items

pub returns : goal.returns
returns c =
    map_all c.args.taken.now c.taken.one-index c.taken-test.false
    (kept_for (described c.args.plan.now) c.args.plan.now.ssa.now (all_packs c.args.plan.now)) _
    c.taken.invariant
