use Rattle.std.proofs.Common.{◌∙◌, ◌<◌, ap, sym, take, rules, arith, length}
use Rattle.std.proofs.lemmas.List.Sorted.{answers_always, IsNonDecreasingBy-from_sort}
use Rattle.vg_plans.proofs.Sorting.{stable-one}
use Rattle.vg_beam.proofs.Growing.{kept-cut}
use Rattle.vg_beam.proofs.candidate.keep.Goals as goal

pub returns : goal.returns
returns c =
    let more : c.args.width < length c.args.met.items = omega (arith, c.if-len-width.false, c.len.ensures) in
    c.truncate.ensures.items ∙ ap (take c.args.width) (stable-one (λ p. p.cost) c.args.met.items c.sort_by_key.new.self.items
    (IsNonDecreasingBy-from_sort (λ p. p.cost) _ (c.in_ok-sort_by_key.ensures.sorted (λ p. p.cost) (answers_always _ _ _ (λ f a r g h. search rules))))
    (c.in_ok-sort_by_key.ensures.stable (λ p. p.cost) (answers_always _ _ _ (λ f a r g h. search rules))))
    ∙ sym (kept-cut (λ p. p.cost) c.args.width c.args.met.items more)
