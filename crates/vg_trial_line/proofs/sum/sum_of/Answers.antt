use Rattle.std.proofs.Common.{◌≡◌, ◌%◌, ◌^◌, sum, subst, refl, rules}
use Rattle.std.proofs.lemmas.List.Sums.{sum_by_push}
use Rattle.std.proofs.lemmas.Fn.{fold_over, slice_gives, fronts}
use Rattle.vg_trial_line.proofs.sum.sum_of.Goals as goal

pub returns : goal.returns
returns c = subst (λ l. c.fold.result ≡ sum l % 2 ^ 32) c.iter.ensures.rest
    (fold_over fronts (λ y. y.now) _ (λ ys n. n ≡ sum ys % 2 ^ 32) _ (λ ys a x b f' j k. let more = sum_by_push (λ n. n) ys x.now in search rules)
    _ _ _ _ (slice_gives c.iter.result) refl c.fold.ensures.ran)
