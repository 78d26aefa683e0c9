use Rattle.vg_verify.proofs.Loads.{Looked}
use Rattle.vg_verify.proofs.earlier_loads.first_load.Given as goal

abbrev pub invariant-units : goal.invariant-units
invariant-units l = Looked l.flags l.address l.width l.first l.own l.done l.place l.found

abbrev pub decreases-units : goal.decreases-units
decreases-units l = l.place
