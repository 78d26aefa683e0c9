use Rattle.vg_loop_grammar.proofs.LoopsAgain.{texts-spell-one-loop}
use Rattle.vg_loop_grammar.proofs.law.texts_spell_one_loop.Goals as goal

pub returns : goal.returns
returns c = texts-spell-one-loop
