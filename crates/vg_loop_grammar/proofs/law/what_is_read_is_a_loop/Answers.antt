use Rattle.vg_loop_grammar.proofs.LoopsFound.{what-is-read-is-a-loop}
use Rattle.vg_loop_grammar.proofs.law.what_is_read_is_a_loop.Goals as goal

pub returns : goal.returns
returns c = what-is-read-is-a-loop
