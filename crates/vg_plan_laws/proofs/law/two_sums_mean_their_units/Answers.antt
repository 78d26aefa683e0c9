use Rattle.vg_plan_laws.proofs.TwoSumsProgram.{two-sums-mean}
use Rattle.vg_plan_laws.proofs.law.two_sums_mean_their_units.Goals as goal

pub returns : goal.returns
returns c = two-sums-mean
