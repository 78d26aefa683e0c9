use Rattle.std.proofs.Common.{◌≡◌, ◌++◌, map, take}
use Rattle.vg_cost.specs.LongerPlan.{all_packs, described}
use Rattle.vg_cost.specs.Taken.{add_all, kept_for, taken_for}
use Rattle.vg_cost.proofs.taken.add_all.Given as goal

abbrev pub invariant-operands : goal.invariant-operands
invariant-operands l =
    let ds = described l.plan in
    let longer = all_packs l.plan in
    let kept = map (kept_for ds l.plan.ssa.now longer) l.taken in
    kept ++ l.fresh.items
    ≡ add_all (taken_for ds l.plan.ssa.now longer) (kept ++ l.initial.fresh.items) (take l.operand-index l.operands)
