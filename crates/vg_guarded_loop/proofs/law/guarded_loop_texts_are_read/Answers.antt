use Rattle.vg_guarded_loop.proofs.Texts.{guarded-loop-texts-are-read}
use Rattle.vg_guarded_loop.proofs.law.guarded_loop_texts_are_read.Goals as goal

pub returns : goal.returns
returns c = guarded-loop-texts-are-read
