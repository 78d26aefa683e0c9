use Rattle.vg_known.proofs.Wholes.{equalities-are-sound}
use Rattle.vg_known.proofs.law.equalities_are_sound.Goals as goal

pub returns : goal.returns
returns c = equalities-are-sound
