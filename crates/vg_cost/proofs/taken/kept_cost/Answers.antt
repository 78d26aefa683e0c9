use Rattle.std.proofs.Common.{◌∙◌, ◌++◌, [], ap, refl, subst, sym}
use Rattle.std.specs.List.{flat_map, sum_by}
use Rattle.std.proofs.lemmas.Grind.{flat_map-append}
use Rattle.std.proofs.lemmas.List.{append-nil, take_all}
use Rattle.vg_cost.specs.LongerPlan.{all_packs, described}
use Rattle.vg_cost.specs.Moves.{Moves}
use Rattle.vg_cost.specs.Taken.{inserted_for, kept_for, taken_of}
use Rattle.vg_cost.specs.Touch.{IsKnownBy}
use Rattle.vg_cost.proofs.Moving.{moves_all, moves_long, moves_none, moves_step}
use Rattle.vg_cost.proofs.Steps.{all_at, sum_more}
use Rattle.vg_cost.proofs.taken.kept_cost.Goals as goal

pub kept_recipe-requires : goal.kept_recipe-requires
kept_recipe-requires c = record {
  plan = c.requires.plan;
  known = all_at (IsKnownBy (described c.args.plan.now) c.args.plan.now.ssa.now
      (all_packs c.args.plan.now) c.args.plan.now.own.now)
      c.args.taken.now c.taken.one-index c.one-item.result c.one-item.result c.requires.known c.taken-test.true c.one-item.is;
}

pub taken-init : goal.taken-init
taken-init c = (refl, moves_none [] _ _)

pub count_inserted-requires : goal.count_inserted-requires
count_inserted-requires c = moves_long _ _ _ _ _ _ c.taken.invariant.1 c.requires.long

pub taken-preserved : goal.taken-preserved
taken-preserved c =
    let x = c.one-item.result in
    let kept = kept_for (described c.args.plan.now) c.args.plan.now.ssa.now (all_packs c.args.plan.now) in
    let same = ap (taken_of x.operand) c.in_ok-recipe.ensures in (
      sum_more c.args.taken.now c.taken.one-index x x c.taken-test.true c.one-item.is
          (λ t. (kept t).recipe.lines) _ _ _ c.taken.invariant.0 (ap (λ t. t.lines) c.in_ok-recipe.ensures) c.in_ok-sum.ensures,
      moves_step (flat_map inserted_for) (flat_map (λ t. inserted_for (kept t))) c.args.taken.now c.taken.one-index x x _ _ _ _ _ _
          (flat_map-append inserted_for) (flat_map-append (λ t. inserted_for (kept t))) c.taken-test.true c.one-item.is c.taken.invariant.1
          (subst (λ l. Moves (inserted_for x ++ []) l c.taken.counts c.count_inserted.new.counts c.taken.changed c.count_inserted.new.changed)
          (ap inserted_for same ∙ sym (append-nil (inserted_for (kept x))))
          (subst (λ l. Moves l (inserted_for (taken_of x.operand c.in_ok-recipe.recipe)) c.taken.counts c.count_inserted.new.counts c.taken.changed c.count_inserted.new.changed)
          (sym (append-nil (inserted_for x))) c.in_ok-count_inserted.ensures)),
    )

pub returns : goal.returns
returns c =
    let kept = kept_for (described c.args.plan.now) c.args.plan.now.ssa.now (all_packs c.args.plan.now) in
    record {
      cost = c.taken.invariant.0 ∙ ap (sum_by (λ t. (kept t).recipe.lines)) (take_all c.taken.one-index c.args.taken.now c.taken-test.false);
      counts = moves_all (flat_map inserted_for) (flat_map (λ t. inserted_for (kept t))) c.args.taken.now c.taken.one-index _ _ _ _
          c.taken-test.false c.taken.invariant.1;
    }
