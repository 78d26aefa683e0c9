use Rattle.std.proofs.Common.{length}
use Rattle.vg_forms.proofs.gather.+push_merged.Given as goal

abbrev pub decreases-push_merged : goal.decreases-push_merged
decreases-push_merged l = length l.rest.now
