use Rattle.vg_gather.proofs.Fits.{holders-fit}
use Rattle.vg_gather.proofs.law.holders_fit.Goals as goal

pub returns : goal.returns
returns c = holders-fit
