use Rattle.vg_loop_grammar.proofs.LoopsAgain.{loop-texts-are-read}
use Rattle.vg_loop_grammar.proofs.law.loop_texts_are_read.Goals as goal

pub returns : goal.returns
returns c = loop-texts-are-read
