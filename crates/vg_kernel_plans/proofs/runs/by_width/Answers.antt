use Rattle.std.proofs.Common.{rules}
use Rattle.std.proofs.lemmas.List.Sorted.{answers_always, IsNonDecreasingBy-from_sort}
use Rattle.vg_base.specs.Width.{bits_of}
use Rattle.vg_plans.proofs.Sorting.{stable-one}
use Rattle.vg_kernel_plans.proofs.runs.by_width.Goals as goal

pub returns : goal.returns
returns c =
    stable-one (λ l. bits_of l.width) c.args.loads.items c.sort_by_key.new.self.items
    (IsNonDecreasingBy-from_sort (λ l. bits_of l.width) _ (c.in_ok-sort_by_key.ensures.sorted (λ l. bits_of l.width) (answers_always _ _ _ (λ f a r g h. search rules))))
    (c.in_ok-sort_by_key.ensures.stable (λ l. bits_of l.width) (answers_always _ _ _ (λ f a r g h. search rules)))
