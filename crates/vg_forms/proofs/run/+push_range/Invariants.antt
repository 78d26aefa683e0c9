use Rattle.std.proofs.Common.{length}
use Rattle.vg_forms.proofs.run.+push_range.Given as goal

abbrev pub decreases-push_range : goal.decreases-push_range
decreases-push_range l = length l.runs.now
