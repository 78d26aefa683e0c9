use Rattle.std.proofs.Common.{length}
use Rattle.vg_answers.proofs.given.+fit.Given as goal

abbrev pub decreases-fit : goal.decreases-fit
decreases-fit l = length l.params.now
