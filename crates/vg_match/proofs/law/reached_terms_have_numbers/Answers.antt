use Rattle.vg_match.proofs.Laws.{reached-have}
use Rattle.vg_match.proofs.law.reached_terms_have_numbers.Goals as goal

pub returns : goal.returns
returns c = reached-have
