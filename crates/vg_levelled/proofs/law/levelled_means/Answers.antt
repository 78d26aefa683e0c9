use Rattle.vg_levelled.proofs.Meaning.{levelled-means}
use Rattle.vg_levelled.proofs.law.levelled_means.Goals as goal

pub returns : goal.returns
returns c = levelled-means
