use Rattle.std.proofs.Common.{[], ◌≡◌, ◌∙◌, ◌++◌, append-nil, ap, map, subst, sym}
use Rattle.std.specs.List.{AllByRecursion, flat_map, sum_by}
use Rattle.vg_plans.specs.World.{operands}
use Rattle.vg_kernel_plans.specs.Packing.{packing}
use Rattle.vg_cost.specs.LongerPlan.{all_packs, described}
use Rattle.vg_cost.specs.Moves.{Moves}
use Rattle.vg_cost.specs.Running.{taken_by}
use Rattle.vg_cost.specs.Taken.{add_all, inserted_for, kept_for, taken_for}
use Rattle.vg_cost.specs.Touch.{IsKnownBy}
use Rattle.vg_cost.proofs.Growing.{known-by, sum-longer, taken-longer, values-longer}
use Rattle.vg_cost.proofs.Moving.{moves_long}
use Rattle.vg_cost.proofs.running.Running.recipes_with.Goals as goal

pub kept_cost-requires : goal.kept_cost-requires
kept_cost-requires c =
    let g = c.args.plan.now in
    let ds = described g in
    let ssa = g.ssa.now in
    record {
      long = c.requires.long;
      plan = c.requires.plan;
      known = subst (AllByRecursion (IsKnownBy ds ssa (all_packs g) g.own.now))
          (sym (c.as_slice-old.ensures.value ∙ c.requires.stands.taken ∙ ap (taken_by ds c.args.table.now ssa) (sym c.requires.packs)))
          (known-by ds ssa g.packs.now g.last.now g.own.now (operands (packing ds c.args.table.now ssa []) g.packs.now) c.requires.plan.own);
    }

pub recipes_cost-requires : goal.recipes_cost-requires
recipes_cost-requires c = moves_long _ _ _ _ _ _ c.in_ok-kept.ensures.counts c.requires.long

pub returns : goal.returns
returns c =
    let g = c.args.plan.now in
    let ds = described g in
    let matches = c.args.table.now in
    let ssa = g.ssa.now in
    let old = c.as_slice-old.result.now in
    let kept = map (kept_for ds ssa (all_packs g)) old in
    let fresh = c.add_all.new.fresh.items in
    let all : kept ++ fresh ≡ taken_by ds matches ssa (all_packs g) =
    c.in_ok-add_all.ensures
    ∙ ap (λ f. add_all (taken_for ds ssa (all_packs g)) (kept ++ f) c.args.operands.now) c.new-fresh.ensures.items
    ∙ ap (λ l. add_all (taken_for ds ssa (all_packs g)) l c.args.operands.now) (append-nil kept)
    ∙ taken-longer ds matches ssa g.packs.now g.last.now old c.args.operands.now
    (c.as_slice-old.ensures.value ∙ c.requires.stands.taken ∙ ap (taken_by ds matches ssa) (sym c.requires.packs))
    c.requires.operands
    in
    record {
      cost = sum-longer ds matches ssa g.packs.now g.last.now old fresh all c.in_ok-kept.kept c.in_ok-added.added c.in_ok-recipes.recipes
          c.in_ok-kept.ensures.cost
          (c.in_ok-added.ensures.cost ∙ ap (sum_by (λ t. t.recipe.lines)) c.as_slice.ensures.value)
          c.in_ok-recipes.ensures;
      counts = values-longer ds matches ssa g.packs.now g.last.now old fresh all (flat_map inserted_for c.args.self.now.taken.items) _ _ _ _ _ _
          (subst (λ l. Moves (flat_map inserted_for l) (flat_map (λ t. inserted_for (kept_for ds ssa (all_packs g) t)) old)
          c.args.counts.now c.kept_cost.new.counts c.args.changed.now c.kept_cost.new.changed) c.as_slice-old.ensures.value
          c.in_ok-kept.ensures.counts)
          (subst (λ l. Moves [] (flat_map inserted_for l) c.kept_cost.new.counts c.recipes_cost.new.counts
          c.kept_cost.new.changed c.recipes_cost.new.changed) c.as_slice.ensures.value c.in_ok-added.ensures.counts);
    }
