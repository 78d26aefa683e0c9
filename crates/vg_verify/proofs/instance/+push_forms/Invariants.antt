use Rattle.std.proofs.Common.{length}
use Rattle.vg_verify.proofs.instance.+push_forms.Given as goal

abbrev pub decreases-push_forms : goal.decreases-push_forms
decreases-push_forms l = length l.lanes.now
