use Rattle.std.proofs.Common.{ℕ, List, Option, None, refl, get_or}
use Rattle.vg_cost.proofs.Marking.{marked_all, marked_none, marked_step}
use Rattle.vg_cost.proofs.marks.mark_lanes.Goals as goal
use Rattle.std.specs.List.{filter_map}
use Rattle.std.proofs.lemmas.List.Elements.{filter_map-append}

pub lanes-init : goal.lanes-init
lanes-init c = marked_none _

pub lanes-preserved : goal.lanes-preserved
lanes-preserved c =
    marked_step (λ (l : List (Option ℕ)). filter_map (λ v. v) l) c.args.lanes.now c.lanes.lane-index (get_or c.args.lanes.now c.lanes.lane-index None) None _ _ _ (filter_map-append (λ v. v)) c.lanes-test.true
    refl c.lanes.invariant c.mark_lane.ensures

pub returns : goal.returns
returns c = marked_all (λ (l : List (Option ℕ)). filter_map (λ v. v) l) c.args.lanes.now c.lanes.lane-index _ _ c.lanes-test.false c.lanes.invariant
