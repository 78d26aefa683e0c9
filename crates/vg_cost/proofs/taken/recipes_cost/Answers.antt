use Rattle.std.proofs.Common.{◌∙◌, [], ap, refl, subst, sym}
use Rattle.std.specs.List.{flat_map, sum_by}
use Rattle.std.proofs.lemmas.Grind.{flat_map-append}
use Rattle.std.proofs.lemmas.List.{append-nil, take_all}
use Rattle.vg_cost.specs.Moves.{Moves}
use Rattle.vg_cost.specs.Taken.{inserted_for}
use Rattle.vg_cost.proofs.Moving.{moves_all, moves_long, moves_none, moves_step}
use Rattle.vg_cost.proofs.Steps.{sum_more}
use Rattle.vg_cost.proofs.taken.recipes_cost.Goals as goal

pub taken-init : goal.taken-init
taken-init c = (refl, moves_none [] _ _)

pub count_inserted-requires : goal.count_inserted-requires
count_inserted-requires c = moves_long _ _ _ _ _ _ c.taken.invariant.1 c.requires

pub taken-preserved : goal.taken-preserved
taken-preserved c =
    let x = c.one-item.result in (
      sum_more c.args.taken.now c.taken.one-index x x c.taken-test.true c.one-item.is
          (λ t. t.recipe.lines) _ _ _ c.taken.invariant.0 refl c.in_ok-sum.ensures,
      moves_step (λ l. []) (flat_map inserted_for) c.args.taken.now c.taken.one-index x x _ _ _ _ _ _
          (λ ys zs. refl) (flat_map-append inserted_for)
          c.taken-test.true c.one-item.is c.taken.invariant.1
          (subst (λ l. Moves [] l c.taken.counts c.count_inserted.new.counts c.taken.changed c.count_inserted.new.changed)
          (sym (append-nil (inserted_for x))) c.in_ok-count_inserted.ensures),
    )

pub returns : goal.returns
returns c = record {
  cost = c.taken.invariant.0 ∙ ap (sum_by (λ t. t.recipe.lines)) (take_all c.taken.one-index c.args.taken.now c.taken-test.false);
  counts = moves_all (λ l. []) (flat_map inserted_for) c.args.taken.now c.taken.one-index _ _ _ _ c.taken-test.false c.taken.invariant.1;
}
