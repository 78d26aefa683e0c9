use Rattle.std.proofs.Common.{rules}
use Rattle.std.proofs.lemmas.List.Sorted.{answers_always, IsNonDecreasingBy-from_sort}
use Rattle.vg_plans.proofs.Sorting.{stable-one}
use Rattle.vg_kernel_plans.proofs.taken.by_low.Goals as goal

pub returns : goal.returns
returns c =
    stable-one (λ s. s.low) c.args.slots.items c.sort_by_key.new.self.items
    (IsNonDecreasingBy-from_sort (λ s. s.low) _ (c.in_ok-sort_by_key.ensures.sorted (λ s. s.low) (answers_always _ _ _ (λ f a r g h. search rules))))
    (c.in_ok-sort_by_key.ensures.stable (λ s. s.low) (answers_always _ _ _ (λ f a r g h. search rules)))
