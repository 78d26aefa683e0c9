use Rattle.vg_loop_laws.proofs.Kept.{unrolled-is-well_formed}
use Rattle.vg_loop_laws.proofs.law.unrolled_is_well_formed.Goals as goal

pub returns : goal.returns
returns c = unrolled-is-well_formed
