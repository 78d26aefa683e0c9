use Rattle.vg_loop_grammar.proofs.LoopsAgain.{no-loop-text-is-a-kernel}
use Rattle.vg_loop_grammar.proofs.law.no_loop_text_is_a_kernel.Goals as goal

pub returns : goal.returns
returns c = no-loop-text-is-a-kernel
