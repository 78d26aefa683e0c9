use Rattle.vg_match.proofs.Laws.{found-fit}
use Rattle.vg_match.proofs.law.found_matches_fit.Goals as goal

pub returns : goal.returns
returns c = found-fit
