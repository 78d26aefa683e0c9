use Rattle.std.proofs.Common.{length}
use Rattle.vg_loops.proofs.near.+stays.Given as goal

-- there are fewer steps after the first
abbrev pub decreases-stays : goal.decreases-stays
decreases-stays l = length l.steps.now
