use Rattle.vg_match.proofs.Laws.{bound-earlier}
use Rattle.vg_match.proofs.law.bound_values_are_earlier.Goals as goal

pub returns : goal.returns
returns c = bound-earlier
