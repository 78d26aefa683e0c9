use Rattle.std.proofs.Common.{rules}
use Rattle.std.specs.Ordering.{is_lt}
use Rattle.std.proofs.lemmas.List.Sorted.{ranks_by, answers_always}
use Rattle.std.proofs.lemmas.Result.{on_ok_weaker}
use Rattle.vg_terms.specs.Order.{order}
use Rattle.vg_terms.specs.Term.{tree}
use Rattle.vg_terms.proofs.Orders.{order_total}
use Rattle.vg_rules_sum.proofs.Sorts.{sorted_by_tree}
use Rattle.vg_rules_sum.proofs.chain.sort.Goals as goal

pub returns : goal.returns
returns c =
    on_ok_weaker c.sort_by.result (λ s. sorted_by_tree _ _ c.sort_by.ensures.permutation (s (λ x y. is_lt (order (tree x) (tree y))) (ranks_by order_total tree) (answers_always _ _ _ (λ f a r g h. search rules)))) c.sort_by.ensures.sorted
