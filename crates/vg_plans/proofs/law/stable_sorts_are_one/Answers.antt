use Rattle.vg_plans.proofs.Sorting.{stable-one}
use Rattle.vg_plans.proofs.law.stable_sorts_are_one.Goals as goal

pub returns : goal.returns
returns c key xs ys r s = stable-one key xs ys r s
