use Rattle.vg_emission.proofs.Meanings.{emitted-means-units}
use Rattle.vg_emission.proofs.law.emitted_programs_mean_their_units.Goals as goal

pub returns : goal.returns
returns c = emitted-means-units
