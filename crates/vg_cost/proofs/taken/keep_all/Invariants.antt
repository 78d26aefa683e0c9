use Rattle.std.proofs.Common.{◌≡◌, map, take}
use Rattle.vg_cost.specs.LongerPlan.{all_packs, described}
use Rattle.vg_cost.specs.Taken.{kept_for}
use Rattle.vg_cost.proofs.taken.keep_all.Given as goal

abbrev pub invariant-taken : goal.invariant-taken
invariant-taken l =
    l.kept.items
    ≡ map (kept_for (described l.plan) l.plan.ssa.now (all_packs l.plan)) (take l.one-index l.taken)
