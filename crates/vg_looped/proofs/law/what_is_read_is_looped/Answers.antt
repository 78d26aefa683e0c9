use Rattle.vg_looped.proofs.LoopedTexts.{what-is-read-is-looped}
use Rattle.vg_looped.proofs.law.what_is_read_is_looped.Goals as goal

pub returns : goal.returns
returns c = what-is-read-is-looped
