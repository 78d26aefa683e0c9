use Rattle.vg_loop_laws.proofs.Looped.{blocks-and-rest-are-turns}
use Rattle.vg_loop_laws.proofs.law.blocks_and_rest_are_turns.Goals as goal

pub returns : goal.returns
returns c = blocks-and-rest-are-turns
