use Rattle.vg_match.proofs.Laws.{one-binding}
use Rattle.vg_match.proofs.law.there_is_one_binding.Goals as goal

pub returns : goal.returns
returns c = one-binding
