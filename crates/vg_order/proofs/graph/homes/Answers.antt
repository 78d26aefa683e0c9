use Rattle.std.proofs.Common.{None, arith}
use Rattle.std.proofs.lemmas.List.{get_or_default}
use Rattle.vg_order.proofs.Building.{homes-begin, homes-more}
use Rattle.vg_order.proofs.graph.homes.Goals as goal

pub units-init : goal.units-init
units-init c =
    homes-begin c.args.owners.now c.args.first c.in_ok-homes.homes.items c.args.list.now.nodes.items c.args.list.now.needs.items
    (let long = c.in_ok-homes.ensures.len in omega arith)

pub units-preserved : goal.units-preserved
units-preserved c =
    homes-more c.args.owners.now c.args.first c.units.unit c.units.homes.items c.push.new.self.items c.args.list.now.nodes.items c.units.list.nodes.items c.settle.new.list.nodes.items
    c.args.list.now.needs.items c.units.list.needs.items c.settle.new.list.needs.items c.in_ok-home.home _
    c.units.invariant c.units.auto.unit c.units-test.true (get_or_default c.args.owners.now c.units.unit None _ c.units-test.true) c.in_ok-home.ensures c.in_ok-push.ensures.items
