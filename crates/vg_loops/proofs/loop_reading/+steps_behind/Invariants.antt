use Rattle.std.proofs.Common.{length}
use Rattle.vg_loops.proofs.loop_reading.+steps_behind.Given as goal

-- there is less room after each step
abbrev pub decreases-steps_behind : goal.decreases-steps_behind
decreases-steps_behind l = length l.room.now
