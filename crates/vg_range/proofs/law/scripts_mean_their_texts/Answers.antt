use Rattle.vg_range.proofs.Calls.{instances-mean}
use Rattle.vg_range.proofs.law.scripts_mean_their_texts.Goals as goal

pub returns : goal.returns
returns c = instances-mean
