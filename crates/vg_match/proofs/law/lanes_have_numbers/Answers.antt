use Rattle.vg_match.proofs.Laws.{lanes-have-numbers}
use Rattle.vg_match.proofs.law.lanes_have_numbers.Goals as goal

pub returns : goal.returns
returns c = lanes-have-numbers
