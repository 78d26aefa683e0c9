use Rattle.vg_looped.proofs.LoopedSizes.{looped-fits}
use Rattle.vg_looped.proofs.law.looped_programs_fit.Goals as goal

pub returns : goal.returns
returns c = looped-fits
