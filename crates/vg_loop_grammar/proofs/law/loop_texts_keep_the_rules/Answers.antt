use Rattle.vg_loop_grammar.proofs.Rules.{loop-texts-keep-the-rules}
use Rattle.vg_loop_grammar.proofs.law.loop_texts_keep_the_rules.Goals as goal

pub returns : goal.returns
returns c = loop-texts-keep-the-rules
