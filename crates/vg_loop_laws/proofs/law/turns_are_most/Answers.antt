use Rattle.vg_loop_laws.proofs.Most.{turns-are-most}
use Rattle.vg_loop_laws.proofs.law.turns_are_most.Goals as goal

pub returns : goal.returns
returns c = turns-are-most
