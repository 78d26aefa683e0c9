use Rattle.vg_gather.proofs.Fits.{constants-fit}
use Rattle.vg_gather.proofs.law.constants_fit.Goals as goal

pub returns : goal.returns
returns c = constants-fit
