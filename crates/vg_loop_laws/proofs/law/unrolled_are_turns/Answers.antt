use Rattle.vg_loop_laws.proofs.Moved.{unrolled-are-turns}
use Rattle.vg_loop_laws.proofs.law.unrolled_are_turns.Goals as goal

pub returns : goal.returns
returns c = unrolled-are-turns
