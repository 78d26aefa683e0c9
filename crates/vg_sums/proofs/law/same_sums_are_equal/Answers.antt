use Rattle.vg_sums.proofs.Equal.{are_equal}
use Rattle.vg_sums.proofs.law.same_sums_are_equal.Goals as goal

pub returns : goal.returns
returns c = are_equal
