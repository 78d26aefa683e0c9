use Rattle.std.proofs.Common.{length}
use Rattle.vg_forms.proofs.gather.+stacked_on.Given as goal

abbrev pub decreases-stacked_on : goal.decreases-stacked_on
decreases-stacked_on l = length l.rest.now
