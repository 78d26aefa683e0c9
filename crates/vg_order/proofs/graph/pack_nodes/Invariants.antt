use Rattle.std.proofs.Common.{◌≡◌, map}
use Rattle.vg_shapes.specs.declared.order.Node.TheVariants.{PackAt}
use Rattle.vg_shapes.specs.Order.{numbers_from}
use Rattle.vg_order.specs.Graphs.{node_needs}
use Rattle.vg_order.proofs.graph.pack_nodes.Given as goal

abbrev pub invariant-packs : goal.invariant-packs
invariant-packs l = record {
  nodes : l.list.nodes.items ≡ map PackAt (numbers_from 0 l.pack);
  needs : l.list.needs.items ≡ map (node_needs l.first l.end l.table l.packs) l.list.nodes.items;
}
