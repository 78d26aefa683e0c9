use Rattle.vg_known.proofs.Same.{same-means-units}
use Rattle.vg_known.proofs.law.same_means_units.Goals as goal

pub returns : goal.returns
returns c = same-means-units
