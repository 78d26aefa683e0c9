use Rattle.vg_ssa.proofs.Soundness.{numbered-values-are-sound}
use Rattle.vg_ssa.proofs.law.numbered_values_are_sound.Goals as goal

pub returns : goal.returns
returns c = numbered-values-are-sound
