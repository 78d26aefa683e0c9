use Rattle.vg_plan_laws.proofs.TwoSumsProgram.{two-sums-lines}
use Rattle.vg_plan_laws.proofs.law.two_sums_are_eight_lines.Goals as goal

pub returns : goal.returns
returns c = two-sums-lines
