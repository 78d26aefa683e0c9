use Rattle.vg_order.proofs.Building.{HomesSoFar}
use Rattle.vg_order.proofs.graph.homes.Given as goal

abbrev pub invariant-units : goal.invariant-units
invariant-units l = HomesSoFar l.owners l.first l.unit l.homes.items l.fn.list.nodes.items l.list.nodes.items l.fn.list.needs.items l.list.needs.items
