use Rattle.vg_looped.proofs.LoopedTexts.{looped-texts-are-read}
use Rattle.vg_looped.proofs.law.looped_texts_are_read.Goals as goal

pub returns : goal.returns
returns c = looped-texts-are-read
