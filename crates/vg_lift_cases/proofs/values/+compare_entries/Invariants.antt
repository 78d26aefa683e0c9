use Rattle.std.proofs.Common.{length}
use Rattle.vg_lift_cases.proofs.values.+compare_entries.Given as goal

abbrev pub decreases-compare_entries : goal.decreases-compare_entries
decreases-compare_entries g l = length l.entries.now
