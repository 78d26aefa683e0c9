use Rattle.vg_packs.proofs.Free.{kernel-earlier}
use Rattle.vg_packs.proofs.law.dependences_are_earlier.Goals as goal

pub returns : goal.returns
returns c = kernel-earlier
