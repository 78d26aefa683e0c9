use Rattle.std.proofs.Common.{length}
use Rattle.vg_forms.proofs.gather.+stacked_on_size.Given as goal

abbrev pub decreases-stacked_on_size : goal.decreases-stacked_on_size
decreases-stacked_on_size l = length l.rest.now
