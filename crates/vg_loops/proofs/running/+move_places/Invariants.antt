use Rattle.std.proofs.Common.{length}
use Rattle.vg_loops.proofs.running.+move_places.Given as goal

-- there are fewer places after the first
abbrev pub decreases-move_places : goal.decreases-move_places
decreases-move_places l = length l.places.now
