use Rattle.vg_cost.proofs.Settled.{Settling}
use Rattle.vg_cost.proofs.settling.settle.Given as goal

abbrev pub invariant-units : goal.invariant-units
invariant-units l = Settling l.change l.fn.counts l.fn.lines l.counts l.changed l.left l.lines

abbrev pub decreases-units : goal.decreases-units
decreases-units l = l.left
