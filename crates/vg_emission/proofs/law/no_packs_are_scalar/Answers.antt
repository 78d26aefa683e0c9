use Rattle.vg_emission.proofs.Scalar.{no-packs-are-scalar}
use Rattle.vg_emission.proofs.law.no_packs_are_scalar.Goals as goal

pub returns : goal.returns
returns c = no-packs-are-scalar
