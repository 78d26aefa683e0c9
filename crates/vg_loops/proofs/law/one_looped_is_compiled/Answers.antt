use Rattle.vg_loops.proofs.OneLooped.{one-looped}
use Rattle.vg_loops.proofs.law.one_looped_is_compiled.Goals as goal

pub returns : goal.returns
returns c = one-looped
