use Rattle.std.proofs.Common.{length}
use Rattle.vg_verify.proofs.instance.+is_any_opaque.Given as goal

abbrev pub decreases-is_any_opaque : goal.decreases-is_any_opaque
decreases-is_any_opaque l = length l.lanes.now
