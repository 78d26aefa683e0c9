use Rattle.std.proofs.Common.{length}
use Rattle.vg_forms.proofs.gather.+merged.Given as goal

abbrev pub decreases-merged : goal.decreases-merged
decreases-merged l = length l.runs.now
