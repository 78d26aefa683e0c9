use Rattle.vg_guard.proofs.NoaliasLaws.{noalias-is-well_formed}
use Rattle.vg_guard.proofs.laws.noalias_is_well_formed.Goals as goal

pub returns : goal.returns
returns c = noalias-is-well_formed
