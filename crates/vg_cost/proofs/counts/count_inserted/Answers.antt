use Rattle.std.proofs.Common.{subst}
use Rattle.std.specs.List.{filter_map}
use Rattle.vg_kernel_plans.specs.Wants.{value_of, wanted_values}
use Rattle.vg_cost.specs.Moves.{Counted}
use Rattle.vg_cost.proofs.Moving.{counted_turn}
use Rattle.vg_cost.proofs.counts.count_inserted.Goals as goal

pub returns : goal.returns
returns c =
    counted_turn c.args.before c.args.recipe.is_inserted (wanted_values c.args.operand.now) _ _ _ _ c.if-before-recipe.false
    (subst (λ l. Counted c.args.recipe.is_inserted (filter_map (λ s. value_of s.wanted) l) c.args.counts.now c.count_slots.new.counts
    c.args.changed.now c.count_slots.new.changed) c.as_slice.ensures c.in_ok-count_slots.ensures)
