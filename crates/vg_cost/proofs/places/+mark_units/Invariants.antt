use Rattle.std.proofs.Common.{length}
use Rattle.vg_cost.proofs.places.+mark_units.Given as goal

abbrev pub decreases-mark_units : goal.decreases-mark_units
decreases-mark_units l = length l.units.now
