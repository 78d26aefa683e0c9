use Rattle.std.proofs.Common.{◌≡◌, subst}
use Rattle.std.specs.Result.{OnOk}
use Rattle.vg_cost.proofs.LaneTrees.{lane_none, lane_some}
use Rattle.vg_cost.proofs.shuffle.push_lane.Goals as goal

pub returns-in-None : goal.returns-in-None
returns-in-None c = lane_none _ _ _ _ c.in-None.ensures.lookup.3

pub returns-in-Some : goal.returns-in-Some
returns-in-Some c =
    subst (λ l. OnOk c.push_leaf.result (c.push_leaf.new.moved.items ≡ l))
    (lane_some _ _ _ _ _ c.in-Some.ensures.lookup.3.0 c.in-Some.ensures.lookup.1)
    c.push_leaf.ensures
