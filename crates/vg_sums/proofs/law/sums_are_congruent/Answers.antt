use Rattle.vg_sums.proofs.Equal.{are_congruent}
use Rattle.vg_sums.proofs.law.sums_are_congruent.Goals as goal

pub returns : goal.returns
returns c = are_congruent
