use Rattle.std.proofs.Common.{rules}
use Rattle.std.proofs.lemmas.List.Sorted.{answers_always, IsNonDecreasingBy-from_sort}
use Rattle.vg_plans.proofs.Sorting.{stable-one}
use Rattle.vg_kernel_plans.proofs.runs.by_pointer.Goals as goal

pub returns : goal.returns
returns c =
    stable-one (λ l. l.address.pointer) c.args.loads.items c.sort_by_key.new.self.items
    (IsNonDecreasingBy-from_sort (λ l. l.address.pointer) _ (c.in_ok-sort_by_key.ensures.sorted (λ l. l.address.pointer) (answers_always _ _ _ (λ f a r g h. search rules))))
    (c.in_ok-sort_by_key.ensures.stable (λ l. l.address.pointer) (answers_always _ _ _ (λ f a r g h. search rules)))
